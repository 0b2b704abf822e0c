-- Two runs of bytes through the same windows: which entries can be fetched is the same, and an entry whose bytes are the same by host
-- address is the same.
use Prim.Native.Nat.{ℕ, zero, suc, ◌+◌, ◌*◌, ◌<◌}
use mathlib.Core.Bool.{false}
use mathlib.Core.List.{List}
use mathlib.Core.Path.{◌≡◌, refl}
use native.Mathlib.Nat.{add-zero, add_assoc}
use native.Mathlib.Omega.{arith}
use lib.ListN.{length, take, drop}
use Rattle.image.specs.Bytes.{little_endian}
use Rattle.image.specs.Memory.{Fetched, missing, found, join, entry}
use Rattle.image.specs.Windows.{windows_of, Spot, nowhere, here, on_spot, spot_in, entry_in, of_windows, byte_at, bad_windows}
use Rattle.image.proofs.WindowBytes.{bytes_at, by_bytes}

pub data Shape : Fetched → Fetched → Type 0 where
  neither : Shape missing missing
  both : {e e' : ℕ} → Shape (found e) (found e')

joined : {f f' g g' : Fetched} → Shape f f' → Shape g g' → Shape (join f g) (join f' g')
joined neither g = neither
joined both neither = neither
joined both both = both

module _ (windows a b : List ℕ) where
  word-shape : (at : ℕ) → Shape (of_windows windows a at) (of_windows windows b at)
  unfolding of_windows entry_in
  word-shape at = by (spot_in (windows_of windows) 8 at)
    where
      by : (s : Spot)
          → Shape (on_spot s missing (λ place left. found (little_endian (take 8 (drop place a)))))
          (on_spot s missing (λ place left. found (little_endian (take 8 (drop place b)))))
      by nowhere = neither
      by (here place left) = both

  pub same_shape : (n at : ℕ) → Shape (entry n (of_windows windows a) at) (entry n (of_windows windows b) at)
  unfolding entry
  same_shape zero at = both
  same_shape (suc n) at = joined (word-shape at) (same_shape n (at + 8))

  same_bytes : (n at : ℕ) → ((i : ℕ) → i < n → byte_at windows b (at + i) ≡ byte_at windows a (at + i)) → bytes_at windows b n at ≡ bytes_at windows a n at
  unfolding bytes_at
  same_bytes zero at same = refl
  same_bytes (suc n) at same =
      rw (← add-zero at, same 0 (omega arith), add-zero at, same_bytes n (at + 1) (λ i small. rw (add_assoc at 1 i) (same (1 + i) (omega arith))))

  module _ (good : bad_windows windows (length a) ≡ false) (good' : bad_windows windows (length b) ≡ false) where
    word_same : (at : ℕ) → ((i : ℕ) → i < 8 → byte_at windows b (at + i) ≡ byte_at windows a (at + i)) → of_windows windows b at ≡ of_windows windows a at
    unfolding of_windows entry_in
    word_same at same = by (spot_in (windows_of windows) 8 at) refl
      where
        by : (s : Spot) → spot_in (windows_of windows) 8 at ≡ s
            → on_spot s missing (λ place left. found (little_endian (take 8 (drop place b))))
            ≡ on_spot s missing (λ place left. found (little_endian (take 8 (drop place a))))
        by nowhere e = refl
        by (here k left) e = rw (by_bytes windows b good' 8 at e, by_bytes windows a good 8 at e, same_bytes 8 at same)

    pub same-entry : (n at : ℕ) → ((i : ℕ) → i < 8 * n → byte_at windows b (at + i) ≡ byte_at windows a (at + i))
        → entry n (of_windows windows b) at ≡ entry n (of_windows windows a) at
    unfolding entry
    same-entry zero at same = refl
    same-entry (suc n) at same =
        rw (word_same at (λ i small. same i (omega arith)), same-entry n (at + 8) (λ i small. rw (add_assoc at 8 i) (same (8 + i) (omega arith))))
