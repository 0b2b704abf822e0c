use mathlib.Core.Path.{◌≡◌, ◌∙◌}
use Rattle.image.specs.Answers.{memory_of}
use lib.ListN.{length}
use Rattle.regions.specs.Known.{Sound}
use Rattle.regions.specs.Outside.{table_outside}
use Rattle.regions.proofs.KnownTables.{standing-below, sound-after}
use Rattle.regions.proofs.known.remember_tables.Goals.{After-remember}
use Rattle.regions.proofs.known.remember_tables.Goals as goal

-- what is known after a level
kept : (c : After-remember)
    → (length c.remember.new.known ≡ length c.loop.known)
    × Sound c.args.tables.registers (memory_of c.args.memory.now) (table_outside c.args.memory.now.windows.now) c.remember.new.known
kept c =
    let a = c.args in
    let l = c.loop in
    sound-after a.tables.registers (memory_of a.memory.now) (table_outside a.memory.now.windows.now) a.tables.levels a.tables.top a.from a.last l.level l.table
    l.above l.known c.remember.new.known l.invariant.0 c.requires.2 l.invariant.1.2 l.invariant.1.1 c.remember.ensures l.invariant.2

pub returns-in_default : goal.returns-in_default
returns-in_default c =
    let k = kept (goal.at.returns-in_default c).After-remember in
    (k.0 ∙ c.loop.auto.known, k.1)

pub loop-preserved : goal.loop-preserved
loop-preserved c =
    let a = c.args in
    let l = c.loop in (
      standing-below a.tables.registers (memory_of a.memory.now) (table_outside a.memory.now.windows.now) a.tables a.last l.level l.table l.above c.in-Ok.next
          l.invariant.1.0 l.invariant.0 c.in-Ok.ensures.onward c.in-Ok.ensures.a_level_down,
      c.in-Ok.next.walkable,
      (kept (goal.at.loop-preserved c).After-remember).1,
    )
