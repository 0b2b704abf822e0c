-- A word stored at a host address, through windows: it stands there, and every other byte is as it came, by host address and in the run.
use Prim.Native.Nat.{ℕ, ◌+◌, ◌-◌, ◌^◌, ◌≤◌, ◌<◌}
use mathlib.Core.Bool.{false}
use mathlib.Core.Path.{◌≡◌, refl, ap, ◌∙◌, subst}
use mathlib.Core.List.{List}
use mathlib.Core.Logic.{◌⊎◌, inl, inr}
use native.Mathlib.Decide.{dec_le}
use native.Mathlib.Nat.{mod-eq_of_lt}
use native.Mathlib.Omega.{arith}
use borrow.Author.Tests.{le-leb}
use lib.ListN.{length, get_or, take, drop}
use lib.Seq.{get_or-drop}
use Rattle.image.specs.Bytes.{little_endian, bytes_of}
use Rattle.image.specs.Memory.{missing, found, with_word}
use Rattle.image.specs.Windows.{windows_of, Spot, nowhere, here, on_spot, spot_in, entry_in, of_windows, byte_at, bad_windows}
use Rattle.image.proofs.Bytes.{AreBytes, number-back, bytes_below}
use Rattle.image.proofs.GoodWindows.{good as fit}
use Rattle.image.proofs.WindowBytes.{one_address, byte-spot}
use Rattle.image.proofs.WindowEntries.{spot_in_lem, wider}
use Rattle.interrupts.specs.Claims.{Shows}
use Rattle.region.specs.Copy.{stored_at}
use Rattle.leaves.proofs.Entries.{length-stored, byte-kept}
use Rattle.built.proofs.Stores.{word-laid}

pub length_at : (windows : List ℕ) (at word : ℕ) (run : List ℕ) → length (stored_at windows at word run) ≡ length run
unfolding stored_at
length_at windows at word run = by (spot_in (windows_of windows) 8 at)
  where
    by : (s : Spot) → length (on_spot s run (λ place left. with_word run place word)) ≡ length run
    by nowhere = refl
    by (here place left) = length-stored run place word

module _ (windows : List ℕ) (at word : ℕ) (run : List ℕ) (good : bad_windows windows (length run) ≡ false) where
  -- a place of the run that no byte of the word has
  pub run-kept : (k : ℕ) → ((a : ℕ) → at ≤ a → a < at + 8 → Shows windows a k → ⊥) → get_or (stored_at windows at word run) k 0 ≡ get_or run k 0
  unfolding stored_at
  run-kept k off = by (spot_in (windows_of windows) 8 at) refl
    where
      by : (s : Spot) → spot_in (windows_of windows) 8 at ≡ s → get_or (on_spot s run (λ place left. with_word run place word)) k 0 ≡ get_or run k 0
      by nowhere is = refl
      by (here place left) is = beside (dec_le place k) (dec_le (place + 8) k)
        where
          fits : place + 8 ≤ length run
          fits = let lies = spot_in_lem (length run) (windows_of windows) 8 at (fit windows (length run) good) is in omega (arith, lies.0, lies.1)

          beside : Dec (place ≤ k) → Dec (place + 8 ≤ k) → get_or (with_word run place word) k 0 ≡ get_or run k 0
          beside (no low) high = byte-kept run place word fits k (inl (omega arith))
          beside (yes low) (yes high) = byte-kept run place word fits k (inr high)
          beside (yes low) (no high) =
              let there : place + (k - place) ≡ k = omega arith in
              absurd
              (off (at + (k - place)) (omega arith) (omega arith)
              (left - (k - place), byte-spot windows (length run) good 8 at (k - place) is (omega arith) ∙ ap (λ (n : ℕ). here n (left - (k - place))) there))

  -- a byte at another host address
  pub host-kept : (a : ℕ) → (a < at) ⊎ (at + 8 ≤ a) → byte_at windows (stored_at windows at word run) a ≡ byte_at windows run a
  unfolding byte_at
  host-kept a other = by (spot_in (windows_of windows) 1 a) refl
    where
      apart : (b : ℕ) → at ≤ b → b < at + 8 → a ≡ b → (a < at) ⊎ (at + 8 ≤ a) → ⊥
      apart b low high same (inl x) = omega arith
      apart b low high same (inr x) = omega arith

      by : (s : Spot) → spot_in (windows_of windows) 1 a ≡ s
          → on_spot s 0 (λ place left. get_or (stored_at windows at word run) place 0) ≡ on_spot s 0 (λ place left. get_or run place 0)
      by nowhere is = refl
      by (here place left) is = run-kept place (λ b low high shown. apart b low high (one_address windows (length run) good a b is shown.1) other)

  -- the word itself
  pub word-at : {place left : ℕ} → spot_in (windows_of windows) 8 at ≡ here place left → word < 2 ^ 64
      → of_windows windows (stored_at windows at word run) at ≡ found word
  unfolding of_windows entry_in stored_at
  word-at {place} {left} is small =
      let lies = spot_in_lem (length run) (windows_of windows) 8 at (fit windows (length run) good) is in
      let back : little_endian (bytes_of 8 word) ≡ word = number-back 8 word ∙ mod-eq_of_lt {m = 256 ^ 8} small in
      rw (is) (ap found (ap little_endian (word-laid run place word (omega (arith, lies.0, lies.1))) ∙ back))

-- a word of bytes
pub word_below : (windows run : List ℕ) → AreBytes run → (at : ℕ) {w : ℕ} → of_windows windows run at ≡ found w → w < 2 ^ 64
unfolding of_windows entry_in
word_below windows run are at {w} h = by (spot_in (windows_of windows) 8 at) h
  where
    by : (s : Spot) → on_spot s missing (λ place left. found (little_endian (take 8 (drop place run)))) ≡ found w → w < 2 ^ 64
    by nowhere h = let z : ◌≡◌ {A = ℕ} 0 1 = cc in absurd (omega arith)
    by (here place left) h =
        let is : little_endian (take 8 (drop place run)) ≡ w = cc in
        subst (λ (n : ℕ). n < 2 ^ 64) is (bytes_below 8 (drop place run) (λ i. rw (get_or-drop place run i 0) (are (place + i))))

-- where a page stands whole, each of its words does
pub word-of-page : (windows : List ℕ) (len : ℕ) → bad_windows windows len ≡ false → (page i : ℕ) {place left : ℕ}
    → spot_in (windows_of windows) 4096 page ≡ here place left → i + 8 ≤ 4096 → spot_in (windows_of windows) 8 (page + i) ≡ here (place + i) (left - i)
word-of-page windows len good page i {place} {left} is room =
    let lies = spot_in_lem len (windows_of windows) 4096 page (fit windows len good) is in
    wider len (windows_of windows) 8 (page + i) (fit windows len good) (omega arith)
    ∙ rw (byte-spot windows len good 4096 page i is (omega arith), le-leb 8 (left - i) (omega (arith, lies.1)))
