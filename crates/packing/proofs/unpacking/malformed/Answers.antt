use Prim.Native.Nat.{ℕ}
use mathlib.Core.Path.{◌≡◌, ap, sym, ◌∙◌}
use borrow.Author.Tests.{ne_eqb}
use Rattle.image.specs.Bits.{bits}
use Rattle.image.proofs.Words.{word_or0}
use Rattle.packing.specs.Registers.{malformed_registers}
use Rattle.packing.proofs.Registers.{first-set, second-set, third-tells}
use Rattle.packing.proofs.unpacking.malformed.Goals.{After-field, After-field-2}
use Rattle.packing.proofs.unpacking.malformed.Goals as goal

-- Field by field of the first word.
pub returns-then-registers-ne24 : goal.returns-then-registers-ne24
unfolding malformed_registers
returns-then-registers-ne24 c = rw (ne_eqb _ _ c.if-registers-ne24.true)

first : (c : After-field) → c.field.result ≡ bits (word_or0 c.args.registers.now 0) 23 22
first c = c.field.ensures ∙ ap (λ (w : ℕ). bits w 23 22) c.word_or_zero-head.ensures

pub returns-then-field-ne0 : goal.returns-then-field-ne0
returns-then-field-ne0 c =
    first-set c.args.registers.now (λ i. (c.type_inv.registers i).fits) c.if-registers-ne24.false
    (λ e. c.if-field-ne0.true (first (goal.at.returns-then-field-ne0 c).After-field ∙ e))

second : (c : After-field-2) → c.field-2.result ≡ bits (word_or0 c.args.registers.now 0) 31 28
second c = c.field-2.ensures ∙ ap (λ (w : ℕ). bits w 31 28) c.word_or_zero-head.ensures

pub returns-then-field-ne0-2 : goal.returns-then-field-ne0-2
returns-then-field-ne0-2 c =
    second-set c.args.registers.now (λ i. (c.type_inv.registers i).fits) c.if-registers-ne24.false
    (sym (first (goal.at.returns-then-field-ne0-2 c).After-field) ∙ c.if-field-ne0.false)
    (λ e. c.if-field-ne0-2.true (second (goal.at.returns-then-field-ne0-2 c).After-field-2 ∙ e))

pub returns : goal.returns
returns c =
    rw (c.field-3.ensures, c.word_or_zero-head.ensures)
    (third-tells c.args.registers.now (λ i. (c.type_inv.registers i).fits) c.if-registers-ne24.false
    (sym (first (goal.at.returns c).After-field) ∙ c.if-field-ne0.false)
    (sym (second (goal.at.returns c).After-field-2) ∙ c.if-field-ne0-2.false))
