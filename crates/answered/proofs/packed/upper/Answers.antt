use Rattle.image.proofs.Fields.{fits}
use Rattle.answered.proofs.packed.upper.Goals as goal

pub overflow_cast-result : goal.overflow_cast-result
overflow_cast-result c = record { fits = rw c.field.ensures (fits _ 63 32) }
