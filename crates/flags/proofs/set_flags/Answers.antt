use Rattle.std.proofs.Common.{length, ◌∙◌}
use Rattle.image.proofs.GoodWindows.{three-each}
use Rattle.flags.proofs.Turns.{turn, done}
use Rattle.flags.proofs.set_flags.Goals as goal

pub first_span-first-requires : goal.first_span-first-requires
first_span-first-requires c = (three-each c.args.windows.now (length c.args.image.now) c.requires).1

pub loop-flag-preserved : goal.loop-flag-preserved
loop-flag-preserved c = turn c.args.windows.now c.args.flags.now c.loop-flag.flag-index c.loop-flag.image c.loop-flag-test.true c.set_flag.ensures ∙ c.loop-flag.invariant

pub returns : goal.returns
returns c = done c.args.windows.now c.args.flags.now c.loop-flag.flag-index c.loop-flag.image c.loop-flag-test.false ∙ c.loop-flag.invariant
