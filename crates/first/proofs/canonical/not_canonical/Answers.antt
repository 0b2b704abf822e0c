use Prim.Native.Nat.{◌-◌}
use mathlib.Core.Path.{◌≡◌, sym, ◌∙◌}
use native.Mathlib.Omega.{arith}
use borrow.Author.Tests.{eq-eqb, ne_eqb}
use Rattle.image.proofs.Fields.{shifted_one}
use Rattle.image.specs.Bits.{bits}
use Rattle.first.specs.First.{input_width, not_canonical}
use Rattle.first.proofs.canonical.not_canonical.Goals as goal

pub returns-then-field-eq1 : goal.returns-then-field-eq1
unfolding not_canonical
returns-then-field-eq1 c =
    let a = c.args in
    let set : bits a.address (input_width a.levels - 1) (input_width a.levels - 1) ≡ 1 = sym c.field.ensures ∙ c.if-field-eq1.true in
    rw (shifted_one (64 - input_width a.levels) (omega arith), c.field-above.ensures, eq-eqb _ _ set)

pub returns : goal.returns
unfolding not_canonical
returns c =
    let a = c.args in
    let clear : bits a.address (input_width a.levels - 1) (input_width a.levels - 1) ≡ 1 → ⊥ = λ h. c.if-field-eq1.false (c.field.ensures ∙ h) in
    rw (c.field-above.ensures, ne_eqb _ _ clear)
