use Prim.Native.Nat.{◌*◌, ◌≤◌}
use mathlib.Core.Path.{◌≡◌}
use lib.ListN.{take}
use Rattle.blocks.specs.Block.{weighed}
use Rattle.blocks.proofs.sum.Given as goal

abbrev pub invariant-loop-i : goal.invariant-loop-i
invariant-loop-i l = (l.sum ≡ weighed 0 (take l.i (take 508 l.fn.block))) × (l.sum ≤ 129_540 * l.i)
