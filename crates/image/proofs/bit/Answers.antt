use Rattle.image.proofs.bit.Goals as goal

pub returns : goal.returns
returns c = rw c.field.ensures
