-- What is left of the test of a block's entries, one entry on.
use Prim.Native.Nat.{ℕ, zero, suc, ◌+◌, ◌-◌, ◌≤◌, ◌<◌}
use mathlib.Core.Path.{◌≡◌, refl}
use mathlib.Core.List.{List, [], ◌∷◌}
use mathlib.Core.Bool.{Bool, true, false, ◌&&◌}
use native.Mathlib.Omega.{arith}
use lib.ListN.{take, drop}
use lib.Seq.{drop-drop}
use lib.Dec.{eqb}
use Rattle.std.specs.List.{fold}
use Rattle.blocks.specs.Block.{zeros, entries_well}

-- bytes
pub zeros_is_fold : (so_far : Bool) (bytes : List ℕ) → fold (λ (t : Bool) (b : ℕ). t && eqb b 0) so_far bytes ≡ (so_far && zeros bytes)
unfolding zeros
zeros_is_fold true [] = refl
zeros_is_fold false [] = refl
zeros_is_fold true (b ∷ bs) = zeros_is_fold (eqb b 0) bs
zeros_is_fold false (b ∷ bs) = zeros_is_fold false bs

-- entries
pub entry_next : (well : List ℕ → Bool) (xs : List ℕ) (left at : ℕ) → 0 < left → well (take 32 (drop at xs)) ≡ true
    → entries_well well left (drop at xs) ≡ entries_well well (left - 1) (drop (at + 32) xs)
unfolding entries_well
entry_next well xs zero at pos e = absurd (omega arith)
entry_next well xs (suc left) at pos e =
    let less : suc left - 1 ≡ left = omega arith in
    rw (e, drop-drop 32 at xs, less)

pub entry-not : (well : List ℕ → Bool) (xs : List ℕ) (left at : ℕ) → 0 < left → well (take 32 (drop at xs)) ≡ false
    → entries_well well left (drop at xs) ≡ false
unfolding entries_well
entry-not well xs zero at pos e = absurd (omega arith)
entry-not well xs (suc left) at pos e = rw e

pub entry-end : (well : List ℕ → Bool) (xs : List ℕ) (left at : ℕ) → left ≤ 0 → entries_well well left (drop at xs) ≡ true
unfolding entries_well
entry-end well xs zero at h = refl
entry-end well xs (suc left) at h = absurd (omega arith)
