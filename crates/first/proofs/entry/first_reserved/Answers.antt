use Prim.Native.Nat.{◌^◌}
use mathlib.Core.Bool.{true, false}
use mathlib.Core.Path.{◌≡◌, ap, sym, ◌∙◌}
use borrow.Author.Tests.{eq-eqb, ne_eqb}
use lib.Dec.{leb}
use Rattle.image.specs.Bits.{bit, any_set}
use Rattle.dma.proofs.Address.{above}
use Rattle.first.proofs.Reserved.{small, at-2, at-3, elsewhere}
use Rattle.first.proofs.entry.first_reserved.Goals.{After-at_or_above_power-beyond, Else-field-ne1}
use Rattle.first.proofs.entry.first_reserved.Goals as goal

beyond : (c : After-at_or_above_power-beyond)
    → c.at_or_above_power-beyond.result
    ≡ any_set c.args.e 51 c.args.registers.base.haw
beyond c =
    c.at_or_above_power-beyond.ensures ∙ ap (leb (2 ^ c.args.registers.base.haw)) c.field.ensures ∙ sym (above c.args.e 51 c.args.registers.base.haw)

large : (c : Else-field-ne1) → bit c.args.e 7 ≡ true
large c = rw (← c.field-3.ensures) (eq-eqb _ _ c.if-field-ne1.false)

pub returns-then-field-ne1 : goal.returns-then-field-ne1
returns-then-field-ne1 c =
    let clear : bit c.args.e 7 ≡ false = rw (← c.field-3.ensures) (ne_eqb _ _ c.if-field-ne1.true) in
    rw (beyond (goal.at.returns-then-field-ne1 c).After-at_or_above_power-beyond, c.field-2.ensures) (sym (small c.args.registers c.args.nxe c.args.e c.args.level clear))

pub returns-then-level-eq2 : goal.returns-then-level-eq2
returns-then-level-eq2 c =
    rw (beyond (goal.at.returns-then-level-eq2 c).After-at_or_above_power-beyond, c.field-2.ensures, c.field-then-level-eq2.ensures, c.if-level-eq2.true) (sym (at-2 c.args.registers c.args.nxe c.args.e (large (goal.at.returns-then-level-eq2 c).Else-field-ne1)))

pub returns-then-level-eq3 : goal.returns-then-level-eq3
returns-then-level-eq3 c =
    rw (beyond (goal.at.returns-then-level-eq3 c).After-at_or_above_power-beyond, c.field-2.ensures, c.field-then-level-eq3.ensures, c.if-level-eq3.true) (sym (at-3 c.args.registers c.args.nxe c.args.e (large (goal.at.returns-then-level-eq3 c).Else-field-ne1)))

pub returns : goal.returns
returns c =
    rw (beyond (goal.at.returns c).After-at_or_above_power-beyond, c.field-2.ensures) (sym (elsewhere c.args.registers c.args.nxe c.args.e (large (goal.at.returns c).Else-field-ne1) c.args.level c.if-level-eq2.false c.if-level-eq3.false))
