use Rattle.interrupts.proofs.descriptor.notification_due.Goals as goal

pub returns : goal.returns
returns c = rw (c.bit.ensures, c.bit-2.ensures)
