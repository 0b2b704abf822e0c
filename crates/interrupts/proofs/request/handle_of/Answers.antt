use native.Mathlib.Omega.{arith}
use Rattle.image.specs.Bits.{bits}
use Rattle.interrupts.proofs.request.handle_of.Goals as goal

pub overflow_mul-result : goal.overflow_mul-result
unfolding bits
overflow_mul-result c = omega (arith, c.field-2.ensures)

pub overflow_add-result : goal.overflow_add-result
unfolding bits
overflow_add-result c = omega arith

pub overflow_cast-result : goal.overflow_cast-result
unfolding bits
overflow_cast-result c = omega arith

pub returns : goal.returns
unfolding bits
returns c = omega arith
