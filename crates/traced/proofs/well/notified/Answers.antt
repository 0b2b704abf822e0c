use Rattle.traced.proofs.well.notified.Goals as goal

pub returns : goal.returns
returns c = rw c.without_number.ensures
