use Prim.Native.Nat.{◌-◌, ◌%◌, ◌^◌, ◌<◌, ◌≤◌}
use mathlib.Core.Path.{◌≡◌}
use Rattle.image.specs.Answers.{memory_of}
use Rattle.regions.specs.Known.{Sound}
use Rattle.regions.specs.Outside.{table_outside}
use Rattle.mapping.specs.Mapping.{regions_over}
use Rattle.mapping.specs.Search.{Fresh}
use Rattle.mapping.proofs.SpanLaws.{QuietFrom}
use Rattle.mapping.proofs.search.next_span.Given as goal

abbrev pub invariant-loop-at : goal.invariant-loop-at
invariant-loop-at l =
    (l.from ≤ l.at)
    × (l.at % 4096 ≡ 0)
    × (l.at < 2 ^ 59)
    × QuietFrom (regions_over l.tables l.memory.windows.now l.memory.image.now) l.end l.from l.at
    × Fresh (regions_over l.tables l.memory.windows.now l.memory.image.now) l.at
    × Sound l.tables.registers (memory_of l.memory) (table_outside l.memory.windows.now) l.known

abbrev pub decreases-loop-at : goal.decreases-loop-at
decreases-loop-at l = l.end - l.at
