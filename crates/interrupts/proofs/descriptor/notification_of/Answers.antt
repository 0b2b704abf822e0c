use Rattle.image.specs.Answers.{number64}
use Rattle.image.proofs.Fields.{fits}
use Rattle.interrupts.proofs.descriptor.notification_of.Goals as goal

pub overflow_cast-vector : goal.overflow_cast-vector
overflow_cast-vector c = record { fits = rw c.bits-vector.ensures (fits (number64 c.args.d) 279 272) }
