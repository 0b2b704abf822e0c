use Rattle.traced.proofs.well.answered.Goals as goal

pub returns : goal.returns
returns c = cc
