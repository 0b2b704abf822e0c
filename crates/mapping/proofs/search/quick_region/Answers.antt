use Rattle.image.specs.Answers.{memory_of}
use Rattle.translation.specs.Rights.{both, neither}
use Rattle.regions.specs.Answers.{region_of}
use Rattle.regions.specs.Outside.{table_outside}
use Rattle.regions.proofs.Regions.{same-region, within}
use Rattle.mapping.specs.Mapping.{regions_over}
use Rattle.mapping.proofs.NextSpan.{tells-region, tells-known}
use Rattle.mapping.proofs.search.quick_region.Goals as goal

pub returns-in-Some : goal.returns-in-Some
returns-in-Some c =
    let a = c.args in
    let told = c.in-Some.ensures in
    rw (c.empty_region.ensures neither)
    (tells-known (regions_over a.tables a.memory.now.windows.now a.memory.now.image.now) 0
    (λ x y. same-region a.tables.registers (memory_of a.memory.now) (table_outside a.memory.now.windows.now) x y a.tables.levels a.tables.top both)
    a.address c.in-Some.level neither told.0 told.1 (told.2 told.0))

pub returns-in-None : goal.returns-in-None
returns-in-None c =
    let a = c.args in
    tells-region (regions_over a.tables a.memory.now.windows.now a.memory.now.image.now) 0
    (λ x y. same-region a.tables.registers (memory_of a.memory.now) (table_outside a.memory.now.windows.now) x y a.tables.levels a.tables.top both)
    a.address a.tables.levels (region_of c.region_at.result) a.tables.walkable.1
    (within a.tables.registers (memory_of a.memory.now) (table_outside a.memory.now.windows.now) a.address a.tables.levels a.tables.top both)
    c.region_at.ensures
