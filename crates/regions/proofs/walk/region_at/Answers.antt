use mathlib.Core.Path.{refl, ap, sym, ◌∙◌}
use native.Mathlib.Omega.{arith}
use Rattle.image.specs.Answers.{memory_of}
use Rattle.regions.specs.Answers.{onward_of}
use Rattle.regions.specs.Outside.{table_outside}
use Rattle.regions.proofs.KnownTables.{standing-below}
use Rattle.regions.proofs.Regions.{ended_at}
use Rattle.regions.proofs.walk.region_at.Goals as goal

pub loop-preserved : goal.loop-preserved
loop-preserved c =
    let a = c.args in
    let l = c.loop in
    let next = c.in-Ok.next in (
      standing-below a.tables.registers (memory_of a.memory.now) (table_outside a.memory.now.windows.now) a.tables a.address l.level l.table l.above next
          l.invariant.2.0 l.invariant.0 c.in-Ok.ensures.onward c.in-Ok.ensures.a_level_down,
      omega (arith, c.in-Ok.ensures.a_level_down, l.invariant.1, l.invariant.2.0),
      next.walkable,
    )

pub returns-in-Err : goal.returns-in-Err
returns-in-Err c =
    let a = c.args in
    let l = c.loop in
    ended_at a.tables.registers (memory_of a.memory.now) (table_outside a.memory.now.windows.now) a.address l.level l.table l.above l.invariant.2.0
    (sym (ap onward_of c.in-Err.is) ∙ c.table_step.ensures.onward)
    ∙ l.invariant.0 a.address refl
