use Rattle.dma.proofs.page.is_leaf.Goals as goal

pub returns : goal.returns
returns c = rw c.bit.ensures
