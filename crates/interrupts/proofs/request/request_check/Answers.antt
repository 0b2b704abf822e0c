use mathlib.Core.Bool.{true, not, ◌||◌}
use mathlib.Core.Path.{◌≡◌, sym, ◌∙◌}
use native.Mathlib.Omega.{arith}
use borrow.Author.Tests.{eq-eqb, ne_eqb}
use Rattle.image.specs.Bits.{bits}
use Rattle.interrupts.specs.Request.{request_check}
use Rattle.interrupts.proofs.request.request_check.Goals.{Else-field-ne1, Else-field-ne1-2}
use Rattle.interrupts.proofs.request.request_check.Goals as goal

pub returns-then-registers : goal.returns-then-registers
unfolding request_check
returns-then-registers c =
    let old = c in
    let registers = old.args.registers in
    let blocked : (registers.eime || not registers.cfis) ≡ true = c.if-registers.true in
    rw (← old.field.ensures, ne_eqb _ _ old.if-field-ne1.true, blocked)

pub returns-then-field-ne1 : goal.returns-then-field-ne1
unfolding request_check
returns-then-field-ne1 c =
    let old = c in
    rw (← old.field.ensures, ne_eqb _ _ old.if-field-ne1.true, c.if-registers.false)

new-format : (c : Else-field-ne1) → bits c.args.address 4 4 ≡ 1
new-format c = sym c.field.ensures ∙ c.if-field-ne1.false

pub returns-then-field-ne1-2 : goal.returns-then-field-ne1-2
unfolding request_check
returns-then-field-ne1-2 c =
    let h = c in
    rw (new-format (goal.at.returns-then-field-ne1-2 c).Else-field-ne1, ← c.field-2.ensures, ne_eqb _ _ c.if-field-ne1-2.true, h.handle_of-handle.ensures.0)

with-shv : (c : Else-field-ne1-2) → bits c.args.address 3 3 ≡ 1
with-shv c = sym c.field-2.ensures ∙ c.if-field-ne1-2.false

pub returns-then-field-ne0 : goal.returns-then-field-ne0
unfolding request_check
returns-then-field-ne0 c =
    let shv = c in
    rw (new-format (goal.at.returns-then-field-ne0 c).Else-field-ne1, with-shv (goal.at.returns-then-field-ne0 c).Else-field-ne1-2, ← c.field-3.ensures, ne_eqb _ _ c.if-field-ne0.true)

pub overflow_cast-subhandle : goal.overflow_cast-subhandle
unfolding bits
overflow_cast-subhandle c = omega arith

pub overflow_add-index : goal.overflow_add-index
unfolding bits
overflow_add-index c = omega arith

pub returns : goal.returns
unfolding request_check
returns c =
    let clear = c in
    let shv = clear in
    let h = shv in
    rw (new-format (goal.at.returns c).Else-field-ne1, with-shv (goal.at.returns c).Else-field-ne1-2, ← clear.field-3.ensures, eq-eqb _ _ clear.if-field-ne0.false, h.handle_of-handle.ensures.0, c.field-subhandle.ensures)
