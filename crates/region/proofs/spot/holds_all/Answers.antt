use mathlib.Core.Path.{sym}
use native.Mathlib.Omega.{arith}
use Rattle.image.specs.Windows.{window_at}
use Rattle.image.proofs.GoodWindows.{before-it, past-it}
use Rattle.region.proofs.Tests.{holds_by}
use Rattle.region.proofs.spot.holds_all.Goals as goal

pub returns-then-at-start : goal.returns-then-at-start
returns-then-at-start c =
    let a = c.args in
    sym (before-it (window_at a.windows.now a.i) a.size a.at c.if-at-start.true)

pub returns-then-length-size : goal.returns-then-length-size
returns-then-length-size c =
    let a = c.args in
    sym (past-it (window_at a.windows.now a.i) a.size a.at (omega (arith, c.if-at-start.false, c.if-length-size.true)))

pub returns : goal.returns
returns c =
    let a = c.args in
    holds_by (window_at a.windows.now a.i) a.size a.at c.if-at-start.false c.if-length-size.false
