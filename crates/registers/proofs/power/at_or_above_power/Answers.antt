use mathlib.Core.Path.{sym}
use Rattle.registers.proofs.Powers.{shifted, beyond}
use Rattle.registers.proofs.power.at_or_above_power.Goals as goal

pub returns-then-n-lt64 : goal.returns-then-n-lt64
returns-then-n-lt64 c = shifted c.args.n c.args.address

pub returns-else-n-lt64 : goal.returns-else-n-lt64
returns-else-n-lt64 c = sym (beyond c.ranges.address.fits c.if-n-lt64.false)
