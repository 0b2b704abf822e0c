use Rattle.traced.proofs.well.posted.Goals as goal

pub returns : goal.returns
returns c = cc
