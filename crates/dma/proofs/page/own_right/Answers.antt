use Rattle.dma.proofs.page.own_right.Goals as goal

pub returns-then-write : goal.returns-then-write
returns-then-write c = rw (c.if-write.true, c.bit.ensures)

pub returns : goal.returns
returns c = rw (c.if-write.false, c.bit-2.ensures)
