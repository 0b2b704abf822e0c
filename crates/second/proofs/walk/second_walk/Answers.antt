use Prim.Native.Nat.{◌-◌}
use mathlib.Core.Path.{refl, sym, ◌∙◌, subst}
use native.Mathlib.Omega.{arith}
use lib.ListN.{take}
use Rattle.std.proofs.Common.{Ok}
use Rattle.std.proofs.lemmas.Result.{err_from_is_err_and}
use Rattle.image.specs.Bits.{bits}
use Rattle.image.specs.Answers.{memory_of}
use Rattle.second.specs.Answers.{handed_by, StepGrown}
use Rattle.second.specs.Second.{at_top}
use Rattle.second.proofs.Seconds.{ended, led, ended_at, led-at, anew, down_to}
use Rattle.second.proofs.Told.{told}
use Rattle.second.proofs.walk.second_walk.Goals as goal

pub loop-below-init : goal.loop-below-init
unfolding bits
loop-below-init c =
    let a = c.args in
    let p = c.requires in (
      p.0,
      p.1,
      p.2,
      p.3,
      omega arith,
      omega arith,
      refl,
      refl,
      anew a.space.registers a.space.entry a.wanted a.address (memory_of a.memory.now) a.space.entry.second_levels a.space.entry.second_top (at_top (take a.count a.flags.now)) p.0,
    )

pub returns-in_err-page-clause-flags_after : goal.returns-in_err-page-clause-flags_after
returns-in_err-page-clause-flags_after c =
    let l = c.loop-below in
    let a = c.args in
    let p = err_from_is_err_and c.from_residual.result c.from_residual.ensures.1 in
    rw (p.1, p.2)
    (ended a.space.registers a.space.entry a.wanted a.address (memory_of a.memory.now) l.below l.table (handed_by l.above l.flags) l.invariant.0 c.in_err-page.ensures.flags_after
    ∙ l.invariant.7)

pub returns-in_err-page-clause-names : goal.returns-in_err-page-clause-names
returns-in_err-page-clause-names c =
    λ before.
    let l = c.loop-below in
    let a = c.args in
    let p = err_from_is_err_and c.from_residual.result c.from_residual.ensures.1 in
    rw (p.1, p.2)
    (c.in_err-page.ensures.step_names
    ∙ sym (ended_at a.space.registers a.space.entry a.wanted a.address (memory_of a.memory.now) l.below l.table (handed_by l.above l.flags) l.invariant.0 before c.in_err-page.ensures.flags_after)
    ∙ l.invariant.8 before before)

pub returns-in-Page-clause-flags_after : goal.returns-in-Page-clause-flags_after
returns-in-Page-clause-flags_after c =
    let l = c.loop-below in
    let a = c.args in
    ended a.space.registers a.space.entry a.wanted a.address (memory_of a.memory.now) l.below l.table (handed_by l.above l.flags) l.invariant.0 (told c.second_entry.new.flags c.in-Page.is c.in_ok-page.ensures.flags_after)
    ∙ l.invariant.7

pub loop-below-preserved : goal.loop-below-preserved
loop-below-preserved c =
    let l = c.loop-below in
    let a = c.args in
    let is = told c.second_entry.new.flags c.in-Down.is c.in_ok-page.ensures.flags_after in
    let grown = subst (λ r. StepGrown (Ok r) l.above.count) c.in-Down.is c.in_ok-page.ensures.step_reachable.1 in
    let next = down_to a.space.registers a.space.entry a.wanted a.address (memory_of a.memory.now) (l.below - 1) l.table (handed_by l.above l.flags) is in (
      next.2,
      omega (arith, l.invariant.1),
      next.0,
      next.1,
      omega (arith, grown.0, l.invariant.4),
      omega (arith, grown.1, l.invariant.5, l.invariant.0),
      omega arith,
      led a.space.registers a.space.entry a.wanted a.address (memory_of a.memory.now) l.below l.table (handed_by l.above l.flags) l.invariant.0 is ∙ l.invariant.7,
      λ before before'.
          anew a.space.registers a.space.entry a.wanted a.address (memory_of a.memory.now) (l.below - 1) _ _ next.2 before _
          ∙ sym (led-at a.space.registers a.space.entry a.wanted a.address (memory_of a.memory.now) l.below l.table (handed_by l.above l.flags) l.invariant.0 before is)
          ∙ l.invariant.8 before before',
    )
