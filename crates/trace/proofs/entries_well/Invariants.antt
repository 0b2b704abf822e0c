use Prim.Native.Nat.{◌+◌, ◌*◌, ◌-◌}
use mathlib.Core.Path.{◌≡◌}
use lib.ListN.{drop}
use Rattle.blocks.specs.Block.{entries_well}
use Rattle.traced.specs.Decoded.{entry_well}
use Rattle.trace.proofs.entries_well.Given as goal

abbrev pub invariant-loop-i : goal.invariant-loop-i
invariant-loop-i l =
    entries_well entry_well l.count (drop 8 l.block) ≡ entries_well entry_well (l.count - l.i) (drop (8 + 32 * l.i) l.block)
