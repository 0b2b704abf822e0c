use Rattle.std.proofs.Common.{◌≡◌, ◌-◌, length}
use Rattle.marking.specs.Marking.{mark_level}
use Rattle.marking.proofs.mark_level.Given as goal

-- What is left to mark leads to what the whole does.
abbrev pub invariant-loop-page : goal.invariant-loop-page
invariant-loop-page l =
    mark_level l.bytes l.tree l.below (length l.initial.marks - l.page) l.page l.marks
    ≡ mark_level l.bytes l.tree l.below (length l.initial.marks) 0 l.initial.marks
