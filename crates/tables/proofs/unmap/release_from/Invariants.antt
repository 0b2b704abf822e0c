use Rattle.std.proofs.Common.{◌≡◌, ◌-◌}
use Rattle.tables.specs.Tables.{tables}
use Rattle.tables.specs.Unmapped.{freed_tables}
use Rattle.tables.proofs.unmap.release_from.Given as goal

-- What is left to release leads to what the whole does.
abbrev pub invariant-loop-below : goal.invariant-loop-below
invariant-loop-below l =
    freed_tables l.tree l.place (l.tree.below - l.below) l.below (tables l.bytes l.marks)
    ≡ freed_tables l.tree l.place (l.tree.below - l.from) l.from (tables l.initial.bytes l.initial.marks)
