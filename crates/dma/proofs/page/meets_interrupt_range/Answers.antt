use Prim.Native.Nat.{◌+◌, ◌≤◌}
use mathlib.Core.Bool.{and-true, and-false}
use mathlib.Core.Path.{sym}
use native.Mathlib.Omega.{arith}
use borrow.Author.Tests.{le-ltb, le-leb, lt-leb}
use lib.Dec.{ltb}
use Rattle.dma.specs.InterruptRange.{span_at}
use Rattle.dma.proofs.Steps.{span-le}
use Rattle.dma.proofs.page.meets_interrupt_range.Goals as goal

pub returns-then-frame : goal.returns-then-frame
returns-then-frame c =
    let a = c.args in
    let ended : a.frame + span_at a.level ≤ 0xFEE0_0000 = omega (arith, c.if-frame.true, span-le a.level c.requires.2) in
    rw (le-ltb 0xFEE0_0000 (a.frame + span_at a.level) ended)

pub returns-then-frame-gt4277141503 : goal.returns-then-frame-gt4277141503
returns-then-frame-gt4277141503 c =
    let a = c.args in
    rw (lt-leb a.frame 0xFEEF_FFFF c.if-frame-gt4277141503.true) (sym (and-false (ltb 0xFEE0_0000 (a.frame + span_at a.level))))

pub overflow_add-result : goal.overflow_add-result
overflow_add-result c =
    rw c.span_at.ensures (omega (arith, c.requires.0, span-le c.args.level c.requires.2))

pub returns : goal.returns
returns c =
    let a = c.args in
    rw (c.span_at.ensures, le-leb a.frame 0xFEEF_FFFF (omega (arith, c.if-frame-gt4277141503.false)))
    (sym (and-true (ltb 0xFEE0_0000 (a.frame + span_at a.level))))
