use Prim.Native.Nat.{◌+◌, ◌%◌, ◌^◌, ◌<◌, ◌≤◌}
use mathlib.Core.Path.{◌≡◌}
use lib.ListN.{length, take}
use Rattle.image.specs.Place.{Place, last_tried}
use Rattle.image.specs.Rules.{run}
use Rattle.image.specs.Answers.{memory_of}
use Rattle.second.specs.Answers.{handed_by}
use Rattle.second.specs.Second.{at_top, second_rules}
use Rattle.second.proofs.walk.second_walk.Given as goal

-- below is how many levels are left: no step leads below level 1
abbrev pub invariant-loop-below : goal.invariant-loop-below
invariant-loop-below l =
    (0 < l.below)
    × (l.below ≤ 5)
    × (l.table % 4096 ≡ 0)
    × (l.table < 2 ^ 52)
    × (l.fn.count ≤ l.above.count)
    × (l.above.count + l.below ≤ l.fn.count + l.space.entry.second_levels)
    × (length l.flags ≡ length l.initial.flags)
    × (run (second_rules l.space.registers l.space.entry l.wanted l.address l.below l.table (handed_by l.above l.flags)) (memory_of l.memory)
    ≡ run (second_rules l.space.registers l.space.entry l.wanted l.address l.space.entry.second_levels l.space.entry.second_top (at_top (take l.fn.count l.initial.flags))) (memory_of l.memory))
    × ((before before' : Place)
    → last_tried before (second_rules l.space.registers l.space.entry l.wanted l.address l.below l.table (handed_by l.above l.flags)) (memory_of l.memory)
    ≡ last_tried before' (second_rules l.space.registers l.space.entry l.wanted l.address l.space.entry.second_levels l.space.entry.second_top (at_top (take l.fn.count l.initial.flags))) (memory_of l.memory))
