-- Laws of an item's reasons.
use Prim.Native.Nat.{ℕ, ◌^◌, ◌<◌, ◌≤◌}
use mathlib.Core.Bool.{Bool, true, false, ◌&&◌, ◌||◌}
use mathlib.Core.Path.{◌≡◌, refl, sym, ◌∙◌}
use native.Mathlib.Omega.{arith}
use borrow.Author.Tests.{eqb-true, leb-false, eq-eqb, not-false}
use lib.Dec.{eqb, leb}
use lib.Pow.{pow_mono}
use Rattle.std.specs.Prelude.{if◌then◌else◌}
use Rattle.image.proofs.Choices.{both, neither}
use Rattle.registers.specs.declared.Registers.{Registers}
use Rattle.dma.specs.InterruptRange.{meets_interrupt_range}
use Rattle.builder.specs.Reasons.{unmaps, rights, is_large, bad_size, bad_frame, place_reason, map_reason, or_else, item_reason}
use Rattle.builder.specs.declared.items.Item.{Item}

-- a choice that came out 0 wasn't the number's
pub none_of : (t : Bool) (n rest : ℕ) → 0 < n → (if t then n else rest) ≡ 0 → (t ≡ false) × (rest ≡ 0)
none_of true n rest h e = absurd (omega arith)
none_of false n rest h e = (refl, e)

-- neither of two
pub both-0 : (a b : ℕ) → or_else a b ≡ 0 → (a ≡ 0) × (b ≡ 0)
both-0 a b h = go (eqb a 0) refl h
  where
    go : (t : Bool) → eqb a 0 ≡ t → (if t then b else a) ≡ 0 → (a ≡ 0) × (b ≡ 0)
    go true e k = (eqb-true a 0 e, k)
    go false e k = let z : ◌≡◌ {A = Bool} true false = sym (eq-eqb a 0 k) ∙ e in let y : ◌≡◌ {A = ℕ} 0 1 = cc in absurd (omega arith)

module _ (registers : Registers) (levels : ℕ) (item : Item) where
  pub sizes : bad_size registers item ≡ false → (0 < item.size) × (item.size ≤ 2 ^ 21)
  sizes h = go (eqb item.size 0x1000) refl (not-false _ h)
    where
      go : (t : Bool) → eqb item.size 0x1000 ≡ t → (t || is_large item && registers.pages_2m) ≡ true
          → (0 < item.size) × (item.size ≤ 2 ^ 21)
      go true e k = let is = eqb-true item.size 0x1000 e in (omega (arith, is), omega (arith, is))
      go false e k =
          let is = eqb-true item.size 0x20_0000 (both (is_large item) registers.pages_2m k).0 in
          (omega (arith, is), omega (arith, is))

  pub sized : place_reason registers levels item ≡ 0 → item.size ≤ 2 ^ 21
  unfolding place_reason
  sized h = (sizes (none_of (bad_size registers item) 1 _ (omega arith) h).0).1

  -- a frame that nothing is said against
  pub frame_below : item_reason registers levels item ≡ 0 → unmaps item ≡ false → registers.haw < 53 → item.frame < 2 ^ 52
  unfolding map_reason
  frame_below h maps haw =
      let r = (both-0 (place_reason registers levels item) (map_reason registers item) h).1 in
      let s = none_of (eqb (rights item) 0) 4 _ (omega arith) (rw maps at r) in
      let f = none_of (bad_frame registers item) 5 0 (omega arith) s.1 in
      let b = leb-false (2 ^ registers.haw) item.frame (neither (leb (2 ^ registers.haw) item.frame) (meets_interrupt_range item.frame item.size) f.0).0 in
      omega (arith, b, pow_mono {i = registers.haw} {j = 52} (omega (arith, haw)))
