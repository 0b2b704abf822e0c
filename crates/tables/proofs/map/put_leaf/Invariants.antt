use Rattle.std.proofs.Common.{◌≡◌, ◌-◌}
use Rattle.tables.specs.Mapped.{with_leaf}
use Rattle.tables.specs.Tables.{tables}
use Rattle.tables.proofs.map.put_leaf.Given as goal

-- What is left to make leads to what the whole does.
abbrev pub invariant-loop-below : goal.invariant-loop-below
invariant-loop-below l =
    with_leaf l.start l.leaf.place l.leaf.last l.leaf.entry (l.below - l.leaf.last) l.to (tables l.bytes l.marks)
    ≡ with_leaf l.start l.leaf.place l.leaf.last l.leaf.entry (l.fn.stop.below - l.leaf.last) l.fn.stop.at (tables l.initial.bytes l.initial.marks)
