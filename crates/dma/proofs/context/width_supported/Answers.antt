use borrow.Author.Tests.{eq-eqb, ne_eqb}
use Rattle.dma.proofs.context.width_supported.Goals as goal

pub returns-then-aw-eq1 : goal.returns-then-aw-eq1
returns-then-aw-eq1 c = rw (eq-eqb _ _ c.if-aw-eq1.true)

pub returns-then-aw-eq2 : goal.returns-then-aw-eq2
returns-then-aw-eq2 c = rw (ne_eqb _ _ c.if-aw-eq1.false, eq-eqb _ _ c.if-aw-eq2.true)

pub returns-then-aw-eq3 : goal.returns-then-aw-eq3
returns-then-aw-eq3 c = rw (ne_eqb _ _ c.if-aw-eq1.false, ne_eqb _ _ c.if-aw-eq2.false, eq-eqb _ _ c.if-aw-eq3.true)

pub returns : goal.returns
returns c = rw (ne_eqb _ _ c.if-aw-eq1.false, ne_eqb _ _ c.if-aw-eq2.false, ne_eqb _ _ c.if-aw-eq3.false)
