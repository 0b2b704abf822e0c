-- Tables whose entries are the same: as built here, and none empty, in one run of bytes as in the other.
use Prim.Native.Nat.{ℕ, zero, suc, ◌+◌, ◌*◌}
use mathlib.Core.Bool.{false}
use mathlib.Core.Path.{◌≡◌, refl, ◌∙◌}
use mathlib.Core.List.{List}
use native.Mathlib.Omega.{arith}
use lib.ListN.{length}
use Rattle.tables.specs.Tables.{held_entry, absent}
use Rattle.tables.specs.declared.Tree.{Tree}
use Rattle.leaves.specs.WellBuilt.{WellBuilt, NoneEmpty}

module _ (bytes bytes' marks : List ℕ) (tree : Tree) (same : (x : ℕ) → held_entry bytes' (8 * x) ≡ held_entry bytes (8 * x)) where
  pub built_alike : length bytes' ≡ length bytes → WellBuilt bytes marks tree → WellBuilt bytes' marks tree
  built_alike long w =
      record {
        placed = w.placed;
        sized = long ∙ w.sized;
        top-marked = w.top-marked;
        from = w.from;
        leads = λ n below m h. rw (same n) (w.leads n below m (rw (same n) at h));
      }

  absent-alike : (n x : ℕ) → absent n bytes' (8 * x) ≡ absent n bytes (8 * x)
  unfolding absent
  absent-alike zero x = refl
  absent-alike (suc n) x =
      let next : 8 * x + 8 ≡ 8 * suc x = omega arith in
      rw (next, same x, absent-alike n (suc x))

  pub none-empty-alike : NoneEmpty bytes marks tree → NoneEmpty bytes' marks tree
  none-empty-alike filled page below m top =
      let place : 4096 * page ≡ 8 * (512 * page) = omega arith in
      let was : absent 512 bytes (8 * (512 * page)) ≡ false = rw place at (filled page below m top) in
      rw place (absent-alike 512 (512 * page) ∙ was)
