use Rattle.std.proofs.Common.{◌≡◌, ◌+◌}
use Rattle.marking.specs.Marking.{mark_levels}
use Rattle.marking.proofs.mark_levels.Given as goal

-- What is left to mark leads to what the whole does.
abbrev pub invariant-loop-below : goal.invariant-loop-below
invariant-loop-below l =
    mark_levels l.bytes l.tree (l.below + 1) l.marks ≡ mark_levels l.bytes l.tree (l.tree.below + 1) l.initial.marks
