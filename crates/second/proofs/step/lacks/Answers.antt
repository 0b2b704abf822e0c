use Prim.Native.Nat.{◌<◌}
use mathlib.Core.Bool.{Bool, true, false}
use native.Mathlib.Omega.{arith}
use mir.Val.{bool_byte}
use Rattle.second.proofs.Rights.{one-lacks}
use Rattle.second.proofs.step.lacks.Goals as goal

at_most_one : (b : Bool) → bool_byte b < 2
at_most_one true = omega arith
at_most_one false = omega arith

pub overflow_mul-need : goal.overflow_mul-need
overflow_mul-need c = omega (arith, at_most_one c.args.wanted.write)

pub overflow_add-need : goal.overflow_add-need
overflow_add-need c = omega (arith, at_most_one c.args.wanted.write, at_most_one c.args.wanted.read)

pub returns : goal.returns
returns c = let a = c.args in one-lacks a.wanted.read a.wanted.write a.e
