use Rattle.std.proofs.Common.{◌<◌}
use Rattle.damage.proofs.named.Given as goal

abbrev pub invariant-loop-d : goal.invariant-loop-d
invariant-loop-d l = l.count < l.d
