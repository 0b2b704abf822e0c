use Rattle.std.proofs.Common.{◌≡◌, ◌+◌, ◌-◌, ◌*◌}
use Rattle.marking.specs.Marking.{mark_entries}
use Rattle.marking.proofs.mark_entries.Given as goal

-- What is left to mark leads to what the whole does.
abbrev pub invariant-loop-word : goal.invariant-loop-word
invariant-loop-word l =
    mark_entries l.bytes l.start l.below (512 - l.word) (l.table + 8 * l.word) l.marks
    ≡ mark_entries l.bytes l.start l.below 512 l.table l.initial.marks
