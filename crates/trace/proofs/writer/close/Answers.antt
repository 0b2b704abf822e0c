use Prim.Native.Nat.{ℕ}
use mathlib.Core.Path.{◌≡◌, ap, sym, ◌∙◌}
use mathlib.Core.Bool.{false}
use mathlib.Core.List.{List}
use native.Mathlib.Omega.{arith}
use lib.ListN.{length}
use Rattle.trace.specs.Writer.{full, unfit, next_block}
use Rattle.trace.proofs.Writes.{fit-number, close-refused, close-none, close-full}
use Rattle.trace.proofs.writer.close.Goals.{Else-is_unfit}
use Rattle.trace.proofs.writer.close.Goals as goal

fit : (c : Else-is_unfit) → unfit c.args.w (length c.args.buffer.now) ≡ false
fit c = sym c.is_unfit.ensures ∙ c.if-is_unfit.false

pub returns-then-is_unfit : goal.returns-then-is_unfit
returns-then-is_unfit c =
    let a = c.args in
    close-refused a.w a.buffer.now (sym c.is_unfit.ensures ∙ c.if-is_unfit.true)

pub returns-then-w-eq0 : goal.returns-then-w-eq0
returns-then-w-eq0 c =
    let a = c.args in
    close-none a.w a.buffer.now (fit (goal.at.returns-then-w-eq0 c).Else-is_unfit) c.if-w-eq0.true

pub overflow_add-result : goal.overflow_add-result
overflow_add-result c =
    let a = c.args in
    omega (arith, fit-number a.w (length a.buffer.now) (fit (goal.at.overflow_add-result c).Else-is_unfit))

pub returns : goal.returns
returns c =
    let a = c.args in
    ap (λ (b : List ℕ). (full (next_block a.w), b)) c.finish.ensures
    ∙ close-full a.w a.buffer.now (fit (goal.at.returns c).Else-is_unfit) c.if-w-eq0.false
