-- The setting of flags by its turns, and what a spot tells: for the code.
use Rattle.std.proofs.Common.{◌≡◌, ℕ, suc, ◌+◌, ◌*◌, ◌/◌, ◌%◌, ◌^◌, ◌<◌, ◌≤◌, List, length, get_or, drop, set, sym, refl, ap, arith, add-one, length-set, drop_of_length-le, drop-cons}
use lib.Bits.{bit_or}
use Rattle.image.specs.Windows.{windows_of, Spot, nowhere, here, on_spot, spot_in}
use Rattle.interrupts.specs.Post.{with_bit}
use Rattle.interrupts.proofs.Posts.{with-bit}
use Rattle.flags.specs.Flags.{set_flag, set_flags}

module _ (windows bytes : List ℕ) (n : ℕ) where
  -- as the code shifts the bit
  pub set_there : {place left : ℕ} → spot_in (windows_of windows) 1 (n / 8) ≡ here place left
      → set bytes place (bit_or (get_or bytes place 0) ((1 * 2 ^ (n % 8)) % 256)) ≡ set_flag windows n bytes
  unfolding set_flag
  set_there {place} spot = rw spot (ap (set bytes place) (with-bit (get_or bytes place 0) (n % 8) (omega arith)))

  pub not_set : spot_in (windows_of windows) 1 (n / 8) ≡ nowhere → bytes ≡ set_flag windows n bytes
  unfolding set_flag
  not_set spot = rw spot refl

  pub length-set_flag : length (set_flag windows n bytes) ≡ length bytes
  unfolding set_flag
  length-set_flag = by (spot_in (windows_of windows) 1 (n / 8))
    where
      by : (s : Spot) → length (on_spot s bytes (λ place left. set bytes place (with_bit (n % 8) (get_or bytes place 0)))) ≡ length bytes
      by nowhere = refl
      by (here place left) = length-set bytes place _

module _ (windows flags : List ℕ) (i : ℕ) (bytes : List ℕ) where
  pub turn : i < length flags → {after : List ℕ} → after ≡ set_flag windows (get_or flags i 0) bytes
      → set_flags windows (drop (i + 1) flags) after ≡ set_flags windows (drop i flags) bytes
  unfolding set_flags
  turn more is = rw (add-one, drop-cons flags i 0 more) (ap (set_flags windows (drop (suc i) flags)) is)

  pub done : length flags ≤ i → bytes ≡ set_flags windows (drop i flags) bytes
  unfolding set_flags
  done none = sym (ap (λ (l : List ℕ). set_flags windows l bytes) (drop_of_length-le flags none))
