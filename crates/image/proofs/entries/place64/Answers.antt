use Rattle.image.proofs.GoodWindows.{three-each}
use Rattle.image.proofs.entries.place64.Goals as goal

pub first_span-requires : goal.first_span-requires
first_span-requires c = (three-each c.args.windows.now c.args.run c.requires.0).1
