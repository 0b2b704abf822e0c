use Rattle.image.proofs.GoodWindows.{three-each}
use Rattle.image.proofs.entries.find_window.Goals as goal

pub first_span-requires : goal.first_span-requires
first_span-requires c =
    let s = c in
    (three-each s.args.windows.now s.args.run s.requires).1
