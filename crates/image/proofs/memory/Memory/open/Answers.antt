use Rattle.std.proofs.Common.{length, sym}
use Rattle.image.proofs.GoodWindows.{three-each}
use Rattle.image.proofs.memory.Memory.open.Goals as goal

pub first_span-first-requires : goal.first_span-first-requires
first_span-first-requires c =
    let a = c.args in
    (three-each a.windows.now (length a.image.now) (sym c.if-bad_windows.ensures)).1
