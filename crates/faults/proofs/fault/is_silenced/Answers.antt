use Rattle.faults.specs.Record.{silenced}
use Rattle.faults.proofs.fault.is_silenced.Goals as goal

-- The tests are those of the definition, in its order.
pub returns : goal.returns
unfolding silenced
returns c =
    rw (c.lies_within.ensures, c.lies_within-2.ensures, c.lies_within-3.ensures)
