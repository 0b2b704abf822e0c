use Rattle.interrupts.specs.Descriptor.{descriptor_check}
use Rattle.interrupts.proofs.descriptor.descriptor_check.Goals as goal

pub returns-then-reserved_descriptor-clause-result_value : goal.returns-then-reserved_descriptor-clause-result_value
unfolding descriptor_check
returns-then-reserved_descriptor-clause-result_value c = rw (← c.reserved_descriptor.ensures, c.if-reserved_descriptor.true)

pub returns-clause-result_value : goal.returns-clause-result_value
unfolding descriptor_check
returns-clause-result_value c = rw (← c.reserved_descriptor.ensures, c.if-reserved_descriptor.false) (cc)
