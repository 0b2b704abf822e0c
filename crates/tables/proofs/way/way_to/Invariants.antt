use Rattle.std.proofs.Common.{◌≡◌, ◌<◌, ◌^◌}
use Rattle.tables.specs.Way.{way_to, way}
use Rattle.tables.proofs.way.way_to.Given as goal

-- What is left of the way leads where the whole way does.
abbrev pub invariant-loop-below : goal.invariant-loop-below
invariant-loop-below l =
    (way_to l.bytes l.tree.start l.place l.last l.below l.table ≡ way l.bytes l.tree l.place l.last)
    × (l.table < 2 ^ 52)
