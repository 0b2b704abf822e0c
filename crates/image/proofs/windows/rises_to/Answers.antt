use Rattle.std.proofs.Common.{arith}
use Rattle.image.specs.Windows.{window_at}
use Rattle.image.proofs.WindowRows.{not-rising, rising-is}
use Rattle.image.proofs.windows.rises_to.Goals as goal

pub returns-then-to-from : goal.returns-then-to-from
returns-then-to-from c =
    let a = c.args in
    not-rising (window_at a.windows.now a.i) (window_at a.windows.now a.j) (omega arith)

pub returns : goal.returns
returns c =
    let a = c.args in
    rising-is (window_at a.windows.now a.i) (window_at a.windows.now a.j) (omega arith)
