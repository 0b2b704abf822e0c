use Rattle.traced.proofs.well.refused.Goals as goal

pub returns : goal.returns
returns c = cc
