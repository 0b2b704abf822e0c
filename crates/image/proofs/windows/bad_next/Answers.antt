use Rattle.std.proofs.Common.{refl, ◌+◌, sym, ◌∙◌}
use Rattle.image.specs.Windows.{window_at}
use Rattle.image.proofs.WindowRows.{part-next, next-wraps, next-is}
use Rattle.image.proofs.windows.bad_next.Goals as goal

pub returns-then-bad_part : goal.returns-then-bad_part
returns-then-bad_part c =
    let a = c.args in
    part-next (window_at a.windows.now a.i) (window_at a.windows.now (a.i + 3)) a.run (sym c.bad_part.ensures ∙ c.if-bad_part.true)

pub returns-then-end-start : goal.returns-then-end-start
returns-then-end-start c =
    let known = c.type_inv.windows in
    let k = c in
    let a = k.args in
    next-wraps (window_at a.windows.now a.i) a.run (sym k.bad_part.ensures ∙ k.if-bad_part.false)
    (known a.i).fits (known (a.i + 2)).fits (window_at a.windows.now (a.i + 3)) (known (a.i + 3)).fits
    refl c.if-end-start.true

pub returns : goal.returns
returns c =
    let known = c.type_inv.windows in
    let k = c in
    let a = k.args in
    next-is (window_at a.windows.now a.i) a.run (sym k.bad_part.ensures ∙ k.if-bad_part.false)
    (known a.i).fits (known (a.i + 2)).fits (window_at a.windows.now (a.i + 3))
    refl c.if-end-start.false
