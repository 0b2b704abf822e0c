use Rattle.std.proofs.Common.{◌+◌, ◌-◌, ◌%◌, ◌^◌, sym, ◌∙◌, arith, lt-ltb}
use Rattle.image.specs.Spans.{window_by}
use Rattle.image.proofs.GoodWindows.{one-test}
use Rattle.image.proofs.Spans.{first-top, first-held}
use Rattle.flags.proofs.window_of.Goals as goal

pub returns-then-at-first : goal.returns-then-at-first
returns-then-at-first c =
    let a = c.args in
    let w = window_by a.first in
    let into = (a.at + (2 ^ 64 - a.first.start)) % 2 ^ 64 in
    let top = first-top a.first a.windows.now a.run c.requires in
    first-held a.first a.windows.now a.run c.requires a.at
    (sym (one-test w a.at (omega arith) top {into = into} (omega arith) (omega arith)) ∙ lt-ltb into w.size c.if-at-first.true)
