-- A page entry's reserved bits, level by level.
use Prim.Native.Nat.{ℕ, ◌≤◌}
use mathlib.Core.Bool.{Bool, true, false, not, ◌||◌, and-true, and-false, or-true, or-false}
use mathlib.Core.Path.{◌≡◌, ◌∙◌}
use native.Mathlib.Decide.{dec_le}
use native.Mathlib.Omega.{arith}
use borrow.Author.Tests.{ne_eqb, le-leb}
use lib.Dec.{leb}
use Rattle.image.specs.Bits.{bit, any_set}
use Rattle.registers.specs.declared.Registers.{Registers}
use Rattle.dma.specs.Page.{leaf_at, page_reserved}

-- bit 7 of an entry above level 3 is reserved: a page whose entry has no reserved bit has one of level 1, 2 or 3
pub low_by : {reserved : Bool} (level e : ℕ) → (bit e 7 ≡ true → 4 ≤ level → reserved ≡ true) → reserved ≡ false → leaf_at level e ≡ true → level ≤ 3
low_by level e above clear leaf = by (dec_le level 3)
  where
    by : Dec (level ≤ 3) → level ≤ 3
    by (yes low) = low
    by (no high) =
        let set = above (rw (ne_eqb level 1 (λ z. omega arith)) at leaf) (omega arith) in
        let z : ◌≡◌ {A = ℕ} 0 1 = cc in
        absurd (omega arith)

module _ (registers : Registers) (e : ℕ) where
  -- where bit 7 is clear, address bits alone
  pub small : (level : ℕ) → bit e 7 ≡ false → page_reserved registers level e ≡ any_set e 51 registers.haw
  unfolding page_reserved
  small level clear = simp (clear, and-false, or-false)

  module _ (large : bit e 7 ≡ true) where
    pub at-2 : page_reserved registers 2 e ≡ (any_set e 51 registers.haw || not registers.pages_2m || any_set e 20 12)
    unfolding page_reserved
    at-2 = simp (large, or-false)

    pub at-3 : page_reserved registers 3 e ≡ (any_set e 51 registers.haw || not registers.pages_1g || any_set e 29 12)
    unfolding page_reserved
    at-3 = simp (large, or-false)

    -- elsewhere there are no large pages: bit 7 is reserved above level 3, and not looked at in level 1
    pub elsewhere : (level : ℕ) → (level ≡ 2 → ⊥) → (level ≡ 3 → ⊥)
        → page_reserved registers level e ≡ (any_set e 51 registers.haw || leb 4 level)
    unfolding page_reserved
    elsewhere level not2 not3 = simp (large, ne_eqb level 2 not2, ne_eqb level 3 not3, and-true, or-false)

pub low-leaf : (registers : Registers) (level e : ℕ) → page_reserved registers level e ≡ false → leaf_at level e ≡ true → level ≤ 3
low-leaf registers level e =
    low_by level e (λ large high. elsewhere registers e large level (λ z. omega arith) (λ z. omega arith) ∙ simp (le-leb 4 level high, or-true))
