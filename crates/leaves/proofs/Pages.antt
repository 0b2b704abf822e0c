-- The lowest free page, where there is one, and how many there are after it was taken.
use Prim.Native.Nat.{ℕ, suc, ◌+◌, ◌<◌}
use mathlib.Core.Bool.{Bool, true, false}
use mathlib.Core.Path.{◌≡◌, refl}
use mathlib.Core.List.{List, [], ◌∷◌}
use native.Mathlib.Omega.{arith}
use borrow.Author.Tests.{eqb-true, ne_eqb}
use lib.Dec.{eqb}
use lib.ListN.{length, get_or, set}
use Rattle.std.specs.Prelude.{if◌then◌else◌}
use Rattle.tables.specs.Pages.{lowest, free_pages}

pub lowest-free : (marks : List ℕ) → 0 < free_pages marks → (lowest marks < length marks) × (get_or marks (lowest marks) 0 ≡ 0)
unfolding lowest free_pages
lowest-free [] some = absurd (omega arith)
lowest-free (m ∷ ms) some = go (eqb m 0) refl some (lowest-free ms)
  where
    go : (t : Bool) → eqb m 0 ≡ t → 0 < (if t then 1 else 0) + free_pages ms
        → (0 < free_pages ms → (lowest ms < length ms) × (get_or ms (lowest ms) 0 ≡ 0))
        → ((if t then 0 else suc (lowest ms)) < suc (length ms)) × (get_or (m ∷ ms) (if t then 0 else suc (lowest ms)) 0 ≡ 0)
    go true e h on = (omega arith, eqb-true m 0 e)
    go false e h on = let r = on (omega arith) in (omega (arith, r.0), r.1)

pub one_less : (marks : List ℕ) (level : ℕ) → 0 < free_pages marks → suc (free_pages (set marks (lowest marks) (suc level))) ≡ free_pages marks
unfolding lowest free_pages
one_less [] level some = absurd (omega arith)
one_less (m ∷ ms) level some = go (eqb m 0) refl some (one_less ms level)
  where
    go : (t : Bool) → eqb m 0 ≡ t → 0 < (if t then 1 else 0) + free_pages ms
        → (0 < free_pages ms → suc (free_pages (set ms (lowest ms) (suc level))) ≡ free_pages ms)
        → suc (free_pages (set (m ∷ ms) (if t then 0 else suc (lowest ms)) (suc level))) ≡ (if t then 1 else 0) + free_pages ms
    go true e h on = rw (ne_eqb (suc level) 0 (λ z. omega arith)) (omega arith)
    go false e h on = let r = on (omega arith) in rw e (omega (arith, r))
