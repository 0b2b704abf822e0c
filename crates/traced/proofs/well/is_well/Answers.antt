use Rattle.traced.specs.Well.{well_traced}
use Rattle.traced.proofs.well.is_well.Goals as goal

pub returns : goal.returns
unfolding well_traced
returns c = cc
