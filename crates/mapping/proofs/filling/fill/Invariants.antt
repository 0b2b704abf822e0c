use Prim.Native.Nat.{◌%◌, ◌^◌, ◌<◌, ◌≤◌}
use mathlib.Core.Path.{◌≡◌}
use Rattle.image.specs.Answers.{memory_of}
use Rattle.regions.specs.Known.{Sound}
use Rattle.regions.specs.Outside.{table_outside}
use Rattle.mapping.specs.Mapping.{regions_over}
use Rattle.mapping.specs.Search.{Fresh}
use Rattle.mapping.proofs.RowByRow.{Done}
use Rattle.mapping.proofs.filling.fill.Given as goal

abbrev pub invariant-loop-count : goal.invariant-loop-count
invariant-loop-count l =
    Done (regions_over l.tables l.memory.windows.now l.memory.image.now) l.end l.initial.rows l.rows l.count l.from
    × (l.from % 4096 ≡ 0)
    × (l.from < 2 ^ 59)
    × Fresh (regions_over l.tables l.memory.windows.now l.memory.image.now) l.from
    × Sound l.tables.registers (memory_of l.memory) (table_outside l.memory.windows.now) l.known
    × (l.count ≤ l.most)
