use Rattle.image.specs.Answers.{memory_of}
use Rattle.regions.specs.Known.{Sound}
use Rattle.regions.specs.Outside.{table_outside}
use Rattle.regions.specs.Walkable.{Walkable}
use Rattle.regions.proofs.KnownTables.{OnWalk}
use Rattle.regions.proofs.known.remember_tables.Given as goal

abbrev pub invariant-loop : goal.invariant-loop
invariant-loop l =
    OnWalk l.tables.registers (memory_of l.memory) (table_outside l.memory.windows.now) l.tables.levels l.tables.top l.last l.level l.table l.above
    × Walkable l.level l.table
    × Sound l.tables.registers (memory_of l.memory) (table_outside l.memory.windows.now) l.known
