use Rattle.std.proofs.Common.{sym, ◌∙◌}
use Rattle.image.specs.Windows.{window_at}
use Rattle.image.proofs.WindowRows.{no-share, share-is}
use Rattle.image.proofs.windows.shares.Goals as goal

pub returns-then-rises_to : goal.returns-then-rises_to
returns-then-rises_to c =
    let a = c.args in
    no-share (window_at a.windows.now a.i) (window_at a.windows.now a.j) (sym c.rises_to.ensures ∙ c.if-rises_to.true)

pub returns : goal.returns
returns c =
    let a = c.args in
    rw c.rises_to-2.ensures
    (share-is (window_at a.windows.now a.i) (window_at a.windows.now a.j)
    (sym c.rises_to.ensures ∙ c.if-rises_to.false))
