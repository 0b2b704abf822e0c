use Prim.Native.Nat.{◌%◌, ◌<◌}
use mathlib.Core.Path.{◌≡◌}
use Rattle.image.specs.Place.{Place, last_tried}
use Rattle.image.specs.Rules.{run}
use Rattle.image.specs.Answers.{memory_of}
use Rattle.translation.specs.Completion.{joined_rules}
use Rattle.translation.specs.Rights.{both}
use Rattle.translation.proofs.walk.walk.Given as goal

-- below counts down from how many levels are left: no step leads below level 1
abbrev pub invariant-loop-below : goal.invariant-loop-below
invariant-loop-below l =
    (0 < l.below)
    × (l.table % 4096 ≡ 0)
    × (run (joined_rules l.registers l.given.address l.given.fpd l.below l.table l.rights) (memory_of l.memory)
    ≡ run (joined_rules l.registers l.given.address l.given.fpd l.fn.context.levels l.fn.context.top both) (memory_of l.memory))
    × ((before before' : Place)
    → last_tried before (joined_rules l.registers l.given.address l.given.fpd l.below l.table l.rights) (memory_of l.memory)
    ≡ last_tried before' (joined_rules l.registers l.given.address l.given.fpd l.fn.context.levels l.fn.context.top both) (memory_of l.memory))
