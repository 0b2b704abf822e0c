-- A first-level entry's reserved bits, level by level.
use Prim.Native.Nat.{ℕ, ◌≤◌}
use mathlib.Core.Bool.{Bool, true, false, not, ◌&&◌, ◌||◌, and-true, and-false, or-true, or-false}
use mathlib.Core.Path.{◌≡◌, ◌∙◌}
use native.Mathlib.Omega.{arith}
use borrow.Author.Tests.{ne_eqb, le-leb}
use lib.Dec.{leb}
use Rattle.image.specs.Bits.{bit, any_set}
use Rattle.dma.specs.Page.{leaf_at}
use Rattle.dma.proofs.Reserved.{low_by}
use Rattle.pasid.specs.declared.ScalableRegisters.{ScalableRegisters}
use Rattle.first.specs.First.{first_reserved}

module _ (r : ScalableRegisters) (nxe : Bool) (e : ℕ) where
  -- where bit 7 is clear, address bits and XD alone
  pub small : (level : ℕ) → bit e 7 ≡ false → first_reserved r nxe level e ≡ (any_set e 51 r.base.haw || bit e 63 && not nxe)
  unfolding first_reserved
  small level clear = simp (clear, and-false, or-false)

  module _ (large : bit e 7 ≡ true) where
    pub at-2 : first_reserved r nxe 2 e ≡ (any_set e 51 r.base.haw || any_set e 20 13 || bit e 63 && not nxe)
    unfolding first_reserved
    at-2 = simp (large, or-false)

    pub at-3 : first_reserved r nxe 3 e ≡ (any_set e 51 r.base.haw || not r.fl1gp || any_set e 29 13 || bit e 63 && not nxe)
    unfolding first_reserved
    at-3 = simp (large, or-false)

    -- elsewhere there are no large pages: bit 7 is reserved above level 3, and not looked at in level 1
    pub elsewhere : (level : ℕ) → (level ≡ 2 → ⊥) → (level ≡ 3 → ⊥)
        → first_reserved r nxe level e ≡ (any_set e 51 r.base.haw || leb 4 level || bit e 63 && not nxe)
    unfolding first_reserved
    elsewhere level not2 not3 = simp (large, ne_eqb level 2 not2, ne_eqb level 3 not3, and-true, or-false)

  -- a page whose entry has no reserved bit has an entry of level 1, 2 or 3: above, bit 7 is reserved
  pub low-leaf : (level : ℕ) → first_reserved r nxe level e ≡ false → leaf_at level e ≡ true → level ≤ 3
  low-leaf level =
      low_by level e (λ large high. elsewhere large level (λ z. omega arith) (λ z. omega arith) ∙ simp (le-leb 4 level high, or-true))
