use mathlib.Core.Path.{◌≡◌, sym, ◌∙◌}
use Rattle.std.specs.Prelude.{Result, Ok, Err, Some}
use Rattle.std.specs.Result.{result_ok}
use Rattle.image.specs.Answers.{memory_of}
use Rattle.regions.specs.Outside.{table_outside}
use Rattle.regions.specs.declared.Region.{Region}
use Rattle.regions.specs.declared.tables.Reached.{Reached}
use Rattle.regions.proofs.KnownTables.{standing-below}
use Rattle.regions.proofs.known.known_level.Goals as goal

made : (r : Result Reached Region) {next : Reached} → result_ok r ≡ Some next → r ≡ Ok next
made (Ok at) is = cc
made (Err region) is = cc

pub loop-preserved : goal.loop-preserved
loop-preserved c =
    let a = c.args in
    let l = c.loop in
    let next = c.in_ok-next.next in
    let went = made _ (sym c.ok.ensures.value ∙ c.in_ok-next.was) in (
      standing-below a.tables.registers (memory_of a.memory.now) (table_outside a.memory.now.windows.now) a.tables a.address l.level l.table l.above next
          l.invariant.1.0 l.invariant.0 (rw went at c.table_step.ensures.onward) (rw went at c.table_step.ensures.a_level_down),
      next.walkable,
    )
