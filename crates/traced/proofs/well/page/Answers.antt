use Rattle.traced.proofs.well.page.Goals as goal

pub returns : goal.returns
returns c = cc
