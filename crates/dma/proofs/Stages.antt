-- The stages before the page walk: where a root entry leads, and what a context entry's check ensures.
use Prim.Native.Nat.{ℕ, ◌%◌, ◌≤◌}
use mathlib.Core.Bool.{Bool, true, false, not, ◌||◌}
use mathlib.Core.Path.{◌≡◌, refl}
use native.Mathlib.Omega.{arith}
use borrow.Author.Tests.{eqb-true}
use lib.Dec.{eqb}
use Rattle.image.specs.Bits.{bit, in_place}
use Rattle.image.specs.Check.{go}
use Rattle.std.specs.Prelude.{if◌then◌else◌}
use Rattle.image.proofs.Choices.{past}
use Rattle.registers.specs.declared.Registers.{Registers}
use Rattle.dma.specs.Context.{address_width, levels_of, translation_type, context_reserved, context_invalid, context_of, context_check, Usable}
use Rattle.dma.specs.Root.{root_reserved, root_check}
use Rattle.dma.specs.declared.context.Context.{Context}

-- the table that a root entry leads to begins a page
pub root-aligned : (haw e : ℕ) {a : ℕ} → root_check haw e ≡ go a → a % 4096 ≡ 0
unfolding root_check
root-aligned haw e {a} h =
    let h1 = past (not (bit e 0)) 0x01 _ a h in
    let h2 = past (root_reserved haw e) 0x0A _ a h1.1 in
    let leads : go (in_place e 63 12) ≡ go a = h2.1 in
    let same : a ≡ in_place e 63 12 = cc in
    rw same (omega arith)

-- a context entry that its check lets pass is past 03h, and the context is what it says
pub valid : (registers : Registers) (e : ℕ) {c : Context} → context_check registers e ≡ go c
    → (context_invalid registers e ≡ false) × (go (context_of e) ≡ go c)
unfolding context_check
valid registers e {c} h =
    let h1 = past (not (bit e 0)) 0x02 _ c h in
    let h2 = past (context_reserved registers.haw e) 0x0B _ c h1.1 in
    past (context_invalid registers e) 0x03 _ c h2.1

-- so it has three to five levels
pub three-to-five : (registers : Registers) (e : ℕ) → context_invalid registers e ≡ false → levels_of e ≤ 5
unfolding context_invalid
three-to-five registers e h = one (eqb (address_width e) 1) refl h
  where
    lost : (t : Bool) → (true || t) ≡ false → ⊥
    lost t h = let z : ◌≡◌ {A = ℕ} 0 1 = cc in omega arith

    three : (t : Bool) → eqb (address_width e) 3 ≡ t
        → (not (if t then registers.levels5 else false) || eqb (translation_type e) 3) ≡ false → levels_of e ≤ 5
    three true q h = omega (arith, eqb-true (address_width e) 3 q)
    three false q h = absurd (lost (eqb (translation_type e) 3) h)

    two : (t : Bool) → eqb (address_width e) 2 ≡ t
        → (not (if t then registers.levels4 else if eqb (address_width e) 3 then registers.levels5 else false) || eqb (translation_type e) 3) ≡ false
        → levels_of e ≤ 5
    two true q h = omega (arith, eqb-true (address_width e) 2 q)
    two false q h = three (eqb (address_width e) 3) refl h

    one : (t : Bool) → eqb (address_width e) 1 ≡ t
        → (not (if t then registers.levels3 else if eqb (address_width e) 2 then registers.levels4 else if eqb (address_width e) 3 then registers.levels5 else false)
        || eqb (translation_type e) 3) ≡ false
        → levels_of e ≤ 5
    one true q h = omega (arith, eqb-true (address_width e) 1 q)
    one false q h = two (eqb (address_width e) 2) refl h

pub usable : (registers : Registers) (e : ℕ) {c : Context} → context_check registers e ≡ go c → Usable c
usable registers e {c} h =
    let passed = valid registers e h in
    let says = passed.1 in
    let is : c ≡ context_of e = cc in
    rw is (omega arith, three-to-five registers e passed.0, omega arith)
