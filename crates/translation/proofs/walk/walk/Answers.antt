use Prim.Native.Nat.{◌-◌}
use mathlib.Core.Path.{refl, ap, sym, ◌∙◌}
use native.Mathlib.Omega.{arith}
use Rattle.std.specs.Prelude.{Ok}
use Rattle.std.proofs.lemmas.Result.{err_from_is_err_and}
use Rattle.image.specs.Answers.{memory_of}
use Rattle.translation.specs.Answers.{step_of}
use Rattle.translation.specs.Rights.{both}
use Rattle.translation.proofs.Stepped.{ended, led, ended_at, led-at, anew, down_to}
use Rattle.translation.proofs.walk.walk.Goals as goal

pub loop-below-init : goal.loop-below-init
loop-below-init c =
    let a = c.args in
    let pre = c.requires in
    (pre.0, pre.2, refl, anew a.registers a.address a.context.fpd (memory_of a.memory.now) a.context.levels a.context.top both pre.0)

pub entry_step-requires : goal.entry_step-requires
entry_step-requires c =
    let l = c.loop-below in
    (omega (arith, l.auto.below, c.requires.1, l.invariant.0), l.invariant.1)

pub returns-in_err-page : goal.returns-in_err-page
returns-in_err-page c =
    let a = c.args in
    let l = c.loop-below in
    let m = memory_of a.memory.now in
    let p = err_from_is_err_and c.from_residual.result c.from_residual.ensures.1 in
    let told = c.in_err-page.ensures.result_value in
    record {
      result_value = rw (p.1, p.2) (ended a.registers a.address a.context.fpd m l.below l.table l.rights l.invariant.0 told ∙ l.invariant.2);
      names = λ before.
          rw (p.1, p.2)
          (c.in_err-page.ensures.step_names
          ∙ sym (ended_at a.registers a.address a.context.fpd m l.below l.table l.rights l.invariant.0 before told)
          ∙ l.invariant.3 before before);
    }

pub returns-in-Page : goal.returns-in-Page
returns-in-Page c =
    let a = c.args in
    let l = c.loop-below in
    let told = sym (ap (λ s. step_of (Ok s)) c.in-Page.is) ∙ c.in_ok-page.ensures.result_value in
    record {
      result_value = ended a.registers a.address a.context.fpd (memory_of a.memory.now) l.below l.table l.rights l.invariant.0 told ∙ l.invariant.2;
      names = λ before. refl;
    }

pub returns-in-Empty : goal.returns-in-Empty
returns-in-Empty c =
    let a = c.args in
    let l = c.loop-below in
    let told = sym (ap (λ s. step_of (Ok s)) c.in-Empty.is) ∙ c.in_ok-page.ensures.result_value in
    record {
      result_value = ended a.registers a.address a.context.fpd (memory_of a.memory.now) l.below l.table l.rights l.invariant.0 told ∙ l.invariant.2;
      names = λ before. refl;
    }

pub loop-below-preserved : goal.loop-below-preserved
loop-below-preserved c =
    let a = c.args in
    let l = c.loop-below in
    let m = memory_of a.memory.now in
    let told = sym (ap (λ s. step_of (Ok s)) c.in-Down.is) ∙ c.in_ok-page.ensures.result_value in
    let next = down_to a.registers a.address a.context.fpd m (l.below - 1) l.table l.rights told in (
      next.1,
      next.0,
      led a.registers a.address a.context.fpd m l.below l.table l.rights l.invariant.0 told ∙ l.invariant.2,
      λ before before'.
          anew a.registers a.address a.context.fpd m (l.below - 1) _ _ next.1 before _
          ∙ sym (led-at a.registers a.address a.context.fpd m l.below l.table l.rights l.invariant.0 before told)
          ∙ l.invariant.3 before before',
    )

-- no step leads below level 1
pub returns : goal.returns
returns c = absurd (omega (arith, c.loop-below.invariant.0, c.loop-below-test.false))
