use Prim.Native.Nat.{◌-◌}
use mathlib.Core.Path.{refl, ap, sym, ◌∙◌}
use native.Mathlib.Omega.{arith}
use Rattle.std.specs.Prelude.{Ok}
use Rattle.std.proofs.lemmas.Result.{err_from_is_err_and}
use Rattle.image.specs.Answers.{memory_of}
use Rattle.dma.specs.Answers.{step_of}
use Rattle.dma.proofs.Stepped.{ended, onward, ended_at, onward-at, anew, down_to}
use Rattle.dma.proofs.walk.walk.Goals as goal

pub loop-below-init : goal.loop-below-init
loop-below-init c =
    let a = c.args in
    let pre = c.requires in
    (pre.0, pre.2, refl, anew a.registers a.address a.write a.context.fpd (memory_of a.memory.now) a.context.levels a.context.top pre.0)

pub page_step-requires : goal.page_step-requires
page_step-requires c =
    let l = c.loop-below in
    (omega (arith, l.auto.below, c.requires.1, l.invariant.0), l.invariant.1)

pub returns-in_err-next : goal.returns-in_err-next
returns-in_err-next c =
    let a = c.args in
    let l = c.loop-below in
    let m = memory_of a.memory.now in
    let p = err_from_is_err_and c.from_residual.result c.from_residual.ensures.1 in
    let led = c.in_err-next.ensures.result_value in
    record {
      result_value = rw (p.1, p.2) (ended a.registers a.address a.write a.context.fpd m l.below l.table l.invariant.0 led ∙ l.invariant.2);
      names = λ before.
          rw (p.1, p.2)
          (c.in_err-next.ensures.step_names
          ∙ sym (ended_at a.registers a.address a.write a.context.fpd m l.below l.table l.invariant.0 before led)
          ∙ l.invariant.3 before before);
    }

pub returns-in-Leaf : goal.returns-in-Leaf
returns-in-Leaf c =
    let a = c.args in
    let l = c.loop-below in
    let led = sym (ap (λ s. step_of (Ok s)) c.in-Leaf.is) ∙ c.in_ok-next.ensures.result_value in
    record {
      result_value = ended a.registers a.address a.write a.context.fpd (memory_of a.memory.now) l.below l.table l.invariant.0 led ∙ l.invariant.2;
      names = λ before. refl;
    }

pub loop-below-preserved : goal.loop-below-preserved
loop-below-preserved c =
    let a = c.args in
    let l = c.loop-below in
    let m = memory_of a.memory.now in
    let led = sym (ap (λ s. step_of (Ok s)) c.in-Down.is) ∙ c.in_ok-next.ensures.result_value in
    let next = down_to a.registers a.address a.write a.context.fpd m (l.below - 1) l.table led in (
      next.1,
      next.0,
      onward a.registers a.address a.write a.context.fpd m l.below l.table l.invariant.0 led ∙ l.invariant.2,
      λ before before'.
          anew a.registers a.address a.write a.context.fpd m (l.below - 1) _ next.1 before _
          ∙ sym (onward-at a.registers a.address a.write a.context.fpd m l.below l.table l.invariant.0 before led)
          ∙ l.invariant.3 before before',
    )

-- no step leads below level 1
pub returns : goal.returns
returns c = absurd (omega (arith, c.loop-below.invariant.0, c.loop-below-test.false))
