use Prim.Native.Nat.{ℕ, ◌+◌}
use mathlib.Core.Path.{◌≡◌, ap, ◌∙◌}
use mathlib.Core.Bool.{false, not, ◌||◌}
use mathlib.Core.List.{List}
use native.Mathlib.Omega.{arith}
use lib.ListN.{length}
use Rattle.blocks.specs.Written.{finished}
use Rattle.traced.specs.Well.{well_traced}
use Rattle.trace.specs.Writer.{kept, full, unfit, next_block}
use Rattle.trace.proofs.Writes.{fit-number, append-refused, append-fit, append-kept, append-full}
use Rattle.trace.proofs.writer.append.Goals.{After-is_well, Else-is_unfit-is_well}
use Rattle.trace.proofs.writer.append.Goals as goal

judged : (c : After-is_well)
    → (unfit c.args.w (length c.args.buffer.now) || not (well_traced c.args.e))
    ≡ (c.is_unfit.result || not c.is_well.result)
judged c = rw (c.is_unfit.ensures, c.is_well.ensures)

fit : (c : Else-is_unfit-is_well)
    → (unfit c.args.w (length c.args.buffer.now) || not (well_traced c.args.e)) ≡ false
fit c =
    let judged : (unfit c.args.w (length c.args.buffer.now) || not (well_traced c.args.e)) ≡ (c.is_unfit.result || not c.is_well.result)
    = rw (c.is_unfit.ensures, c.is_well.ensures) in
    judged ∙ c.if-is_unfit-is_well.false

pub returns-then-is_unfit-is_well : goal.returns-then-is_unfit-is_well
returns-then-is_unfit-is_well c =
    let a = c.args in
    append-refused a.w a.buffer.now a.e (judged (goal.at.returns-then-is_unfit-is_well c).After-is_well ∙ c.if-is_unfit-is_well.true)

pub returns-then-w-lt14 : goal.returns-then-w-lt14
returns-then-w-lt14 c =
    let a = c.args in
    ap (λ (b : List ℕ). (kept (record { count = a.w.count + 1; number = a.w.number }), b)) c.encode.ensures
    ∙ append-kept a.w a.buffer.now a.e (fit (goal.at.returns-then-w-lt14 c).Else-is_unfit-is_well) c.if-w-lt14.true

pub overflow_add-result-2 : goal.overflow_add-result-2
overflow_add-result-2 c =
    let a = c.args in
    omega (
      arith,
      fit-number a.w (length a.buffer.now) (append-fit a.w a.buffer.now a.e
          (fit (goal.at.overflow_add-result-2 c).Else-is_unfit-is_well)),
    )

pub returns : goal.returns
returns c =
    let a = c.args in
    ap (λ (b : List ℕ). (full (next_block a.w), b))
    (c.finish.ensures ∙ ap (λ (b : List ℕ). finished b a.w.number 15) c.encode.ensures)
    ∙ append-full a.w a.buffer.now a.e (fit (goal.at.returns c).Else-is_unfit-is_well) c.if-w-lt14.false
