use Rattle.nested.proofs.Firsts.{above-one}
use Rattle.nested.proofs.level.level_step.Goals as goal

pub returns-in-Down-clause-level_reachable : goal.returns-in-Down-clause-level_reachable
returns-in-Down-clause-level_reachable c =
    let a = c.args in
    let f = c.in_ok-table.ensures in
    let told = rw c.in-Down.is at f.result_value in
    let small = rw c.in-Down.is at f.reachable in
    (above-one a.walk.space.registers a.walk.space.entry a.walk.asked.write a.here.writable a.level a.e c.requires.0 told, small.0, small.1)
