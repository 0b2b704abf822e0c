use mathlib.Core.Path.{sym, ◌∙◌}
use Rattle.registers.specs.Admission.{admission}
use Rattle.registers.proofs.admission.admit.Goals as goal

pub returns-then-bad : goal.returns-then-bad
unfolding admission
returns-then-bad c = rw (sym c.bad.ensures ∙ c.if-bad.true)

pub returns-then-wrong_kind : goal.returns-then-wrong_kind
unfolding admission
returns-then-wrong_kind c = rw (sym c.bad.ensures ∙ c.if-bad.false, c.if-wrong_kind.true)

pub returns-then-on : goal.returns-then-on
unfolding admission
returns-then-on c = rw (sym c.bad.ensures ∙ c.if-bad.false, c.if-wrong_kind.false, c.if-on.true)

pub returns : goal.returns
unfolding admission
returns c = rw (sym c.bad.ensures ∙ c.if-bad.false, c.if-wrong_kind.false, c.if-on.false)
