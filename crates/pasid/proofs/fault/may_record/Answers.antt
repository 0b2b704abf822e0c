use Rattle.pasid.specs.Record.{silenced}
use Rattle.pasid.proofs.fault.may_record.Goals as goal

pub returns : goal.returns
unfolding silenced
returns c = rw (c.lies_within.ensures, c.lies_within-2.ensures, c.lies_within-3.ensures, c.lies_within-4.ensures)
