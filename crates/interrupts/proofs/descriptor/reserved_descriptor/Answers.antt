use Rattle.interrupts.proofs.descriptor.reserved_descriptor.Goals as goal

pub returns : goal.returns
returns c = cc
