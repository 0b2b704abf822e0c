use Rattle.std.proofs.Common.{◌+◌, sym, ◌∙◌, arith}
use Rattle.image.specs.Windows.{window_at}
use Rattle.image.proofs.WindowRows.{part-last, good-part, last-is}
use Rattle.image.proofs.windows.bad_last.Goals as goal

pub returns-then-bad_part : goal.returns-then-bad_part
returns-then-bad_part c =
    let a = c.args in
    part-last (window_at a.windows.now a.i) a.run (sym c.bad_part.ensures ∙ c.if-bad_part.true)

pub overflow_sub-result : goal.overflow_sub-result
overflow_sub-result c = omega (arith, c.type_inv.windows c.args.i)

pub overflow_sub-result-2 : goal.overflow_sub-result-2
overflow_sub-result-2 c =
    let k = c in
    let a = k.args in
    omega (arith, (good-part (window_at a.windows.now a.i) a.run (sym k.bad_part.ensures ∙ k.if-bad_part.false)).1)

pub returns : goal.returns
returns c =
    let k = c in
    let a = k.args in
    last-is (window_at a.windows.now a.i) a.run (sym k.bad_part.ensures ∙ k.if-bad_part.false)
    (c.type_inv.windows a.i).fits (c.type_inv.windows (a.i + 2)).fits
