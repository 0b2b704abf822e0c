use Rattle.traced.proofs.well.passed.Goals as goal

pub returns : goal.returns
returns c = cc
