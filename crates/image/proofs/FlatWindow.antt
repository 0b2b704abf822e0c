-- The flat image is one window from 0.
use Rattle.std.proofs.Common.{◌≡◌, ℕ, zero, suc, ◌+◌, ◌-◌, ◌^◌, ◌≤◌, false, leb, List, [], ◌∷◌, length, refl, arith, le-leb}
use native.Mathlib.Decide.{dec_le}
use borrow.Author.Tests.{lt-leb}
use Rattle.std.specs.Prelude.{if◌then◌else◌}
use Rattle.image.specs.Memory.{missing, found, word_at, of_image}
use Rattle.image.specs.Windows.{Window, windows_of, holds_all, nowhere, here, spot_in, on_spot, entry_in, of_windows, bad_with_any, bad_list, bad_windows, flat}
use Rattle.image.proofs.GoodWindows.{holding, past-it, window-good}

abbrev all : ℕ → Window
all n = record { start = 0; place = 0; size = n }

module _ (run : List ℕ) (at : ℕ) where
  in_all : Dec (at + 8 ≤ length run)
      → on_spot (if holds_all (all (length run)) 8 at then here (0 + (at - 0)) (0 + length run - at) else nowhere)
      missing (λ place left. found (word_at run place))
      ≡ (if leb (at + 8) (length run) then found (word_at run at) else missing)
  in_all (yes h) =
      let there : 0 + (at - 0) ≡ at = omega arith in
      rw (holding (all (length run)) 8 at (omega arith) (omega arith), le-leb (at + 8) (length run) h, there)
  in_all (no h) = rw (past-it (all (length run)) 8 at (omega arith), lt-leb (at + 8) (length run) (omega arith))

pub flat-is : (run : List ℕ) (at : ℕ) → of_windows (flat (length run)) run at ≡ of_image run at
unfolding of_windows entry_in of_image word_at flat windows_of spot_in
flat-is [] at = rw (lt-leb (at + 8) 0 (omega arith))
flat-is (x ∷ xs) at = in_all (x ∷ xs) at (dec_le (at + 8) (length (x ∷ xs)))

pub flat-fine : (n : ℕ) → n ≤ 2 ^ 64 → bad_windows (flat n) n ≡ false
unfolding bad_windows flat windows_of bad_list bad_with_any
flat-fine zero h = refl
flat-fine (suc n) h =
    rw (window-good (all (suc n)) (suc n) (record { aligned = refl; some = omega arith; in_run = omega arith; top = omega arith }))
