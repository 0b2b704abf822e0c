use Rattle.traced.proofs.well.granted.Goals as goal

pub returns : goal.returns
returns c = cc
