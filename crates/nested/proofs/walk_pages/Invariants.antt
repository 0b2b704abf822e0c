use Prim.Native.Nat.{◌≤◌}
use mathlib.Core.Path.{◌≡◌}
use lib.ListN.{length}
use Rattle.image.specs.Answers.{memory_of}
use Rattle.image.specs.Place.{entry_at, last_tried}
use Rattle.image.specs.Rules.{run}
use Rattle.nested.specs.Positions.{kind_rules, position_rules, PositionFits}
use Rattle.nested.proofs.walk_pages.Given as goal

abbrev pub invariant-loop-next : goal.invariant-loop-next
invariant-loop-next l =
    PositionFits l.walk.space.entry l.position
    × (length l.flags ≡ length l.initial.flags)
    × (47 ≤ length l.initial.flags)
    × (run (position_rules l.walk l.position l.flags) (memory_of l.memory) ≡ run (kind_rules l.walk.space.registers l.walk.space.entry l.walk.asked.address l.walk.asked.write) (memory_of l.memory))
    × (last_tried (entry_at l.position.last) (position_rules l.walk l.position l.flags) (memory_of l.memory)
    ≡ last_tried (entry_at l.at) (kind_rules l.walk.space.registers l.walk.space.entry l.walk.asked.address l.walk.asked.write) (memory_of l.memory))

abbrev pub decreases-loop-next : goal.decreases-loop-next
decreases-loop-next l = l.position.level
