use Rattle.traced.proofs.well.is_bare.Goals as goal

pub returns : goal.returns
returns c = cc
