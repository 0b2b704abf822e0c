use Rattle.std.proofs.Common.{◌*◌, ◌≤◌}
use Rattle.damage.proofs.try_all.Given as goal

abbrev pub invariant-loop-at : goal.invariant-loop-at
invariant-loop-at g l = l.count ≤ 255 * l.at
