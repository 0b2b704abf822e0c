use mathlib.Core.Bool.{true, false, not, ◌||◌}
use mathlib.Core.Path.{◌≡◌, sym, ◌∙◌}
use native.Mathlib.Omega.{arith}
use lib.Dec.{lit≤}
use Rattle.image.proofs.Fields.{in-place-lt}
use Rattle.dma.specs.Page.{page_reserved}
use Rattle.dma.proofs.Reserved.{low-leaf}
use Rattle.second.specs.Answers.{handed_by}
use Rattle.second.specs.Second.{readable, writable, flags_not_snooped}
use Rattle.second.proofs.Rights as rights
use Rattle.second.proofs.Seconds as step
use Rattle.second.proofs.Told.{at_most_two}
use Rattle.second.proofs.step.second_step.Goals.{Else-field-eq0, Else-flags_not_snooped, Else-lacks, Else-page_reserved, Then-field-eq0}
use Rattle.second.proofs.step.second_step.Goals as goal

-- the tests that the code is past
none : (c : Then-field-eq0) → let a = c.args in
    not (readable (handed_by a.above a.flags.now) a.e || writable (handed_by a.above a.flags.now) a.e) ≡ true
none c =
    rw (← c.join-rights.ensures.0, ← c.join-rights.ensures.1) (rights.none_left c.join-rights.result (sym c.field.ensures ∙ c.if-field-eq0.true))

some : (c : Else-field-eq0) → let a = c.args in
    not (readable (handed_by a.above a.flags.now) a.e || writable (handed_by a.above a.flags.now) a.e) ≡ false
some c =
    rw (← c.join-rights.ensures.0, ← c.join-rights.ensures.1) (rights.some_left c.join-rights.result (λ z. c.if-field-eq0.false (c.field.ensures ∙ z)))

clear : (c : Else-page_reserved) → let a = c.args in page_reserved a.space.registers.base a.level a.e ≡ false
clear c = sym c.page_reserved.ensures ∙ c.if-page_reserved.false

snooped : (c : Else-flags_not_snooped) → let a = c.args in
    flags_not_snooped a.space.registers a.space.entry a.wanted.write a.level a.e ≡ false
snooped c = sym c.flags_not_snooped.ensures ∙ c.if-flags_not_snooped.false

passed : (c : Else-lacks) → let a = c.args in
    step.Passed a.space.registers a.space.entry a.wanted a.level a.at (handed_by a.above a.flags.now) a.e
passed c = (
  rw (← c.join-rights.ensures.0, ← c.join-rights.ensures.1) (rights.some_left c.join-rights.result (λ z. c.if-field-eq0.false (c.field.ensures ∙ z))),
  sym c.page_reserved.ensures ∙ c.if-page_reserved.false,
  sym c.flags_not_snooped.ensures ∙ c.if-flags_not_snooped.false,
  sym c.lacks.ensures ∙ c.if-lacks.false,
)

pub returns-then-field-eq0-clause-flags_after : goal.returns-then-field-eq0-clause-flags_after
returns-then-field-eq0-clause-flags_after c =
    let a = c.args in
    rw c.stop.ensures
    (step.none_left a.space.registers a.space.entry a.wanted a.level a.at (handed_by a.above a.flags.now) a.e (none (goal.at.returns-then-field-eq0-clause-flags_after c).Then-field-eq0))

pub returns-then-page_reserved-clause-flags_after : goal.returns-then-page_reserved-clause-flags_after
returns-then-page_reserved-clause-flags_after c =
    let a = c.args in
    rw c.stop-then-page_reserved.ensures
    (step.reserved a.space.registers a.space.entry a.wanted a.level a.at (handed_by a.above a.flags.now) a.e (some (goal.at.returns-then-page_reserved-clause-flags_after c).Else-field-eq0) (sym c.page_reserved.ensures ∙ c.if-page_reserved.true))

pub returns-then-flags_not_snooped-clause-flags_after : goal.returns-then-flags_not_snooped-clause-flags_after
returns-then-flags_not_snooped-clause-flags_after c =
    let a = c.args in
    let g = goal.at.returns-then-flags_not_snooped-clause-flags_after c in
    rw c.stop-then-flags_not_snooped.ensures
    (step.not-snooped a.space.registers a.space.entry a.wanted a.level a.at (handed_by a.above a.flags.now) a.e (some g.Else-field-eq0) (clear g.Else-page_reserved) (sym c.flags_not_snooped.ensures ∙ c.if-flags_not_snooped.true))

pub returns-then-lacks-clause-flags_after : goal.returns-then-lacks-clause-flags_after
returns-then-lacks-clause-flags_after c =
    let a = c.args in
    let g = goal.at.returns-then-lacks-clause-flags_after c in
    rw (c.stop-then-lacks.ensures, c.denied.ensures)
    (step.lacking a.space.registers a.space.entry a.wanted a.level a.at (handed_by a.above a.flags.now) a.e (some g.Else-field-eq0) (clear g.Else-page_reserved) (snooped g.Else-flags_not_snooped)
    (sym c.lacks.ensures ∙ c.if-lacks.true))

pub returns-then-is_leaf-clause-flags_after : goal.returns-then-is_leaf-clause-flags_after
returns-then-is_leaf-clause-flags_after c =
    let a = c.args in
    rw (c.in_place.ensures, c.field-then-is_leaf.ensures, c.join-rights.ensures.1, c.collect-count.ensures.flags_after)
    (step.to-page a.space.registers a.space.entry a.wanted a.level a.at (handed_by a.above a.flags.now) a.e (passed (goal.at.returns-then-is_leaf-clause-flags_after c).Else-lacks) (sym c.is_leaf.ensures ∙ c.if-is_leaf.true))

pub returns-then-is_leaf-clause-step_reachable : goal.returns-then-is_leaf-clause-step_reachable
returns-then-is_leaf-clause-step_reachable c =
    let a = c.args in
    let bound = c.collect-count.ensures.lower_bound in
    let low = low-leaf a.space.registers.base a.level a.e (passed (goal.at.returns-then-is_leaf-clause-step_reachable c).Else-lacks).1 (sym c.is_leaf.ensures ∙ c.if-is_leaf.true) in (
      (rw c.in_place.ensures (in-place-lt a.e 51 12 (lit≤ tt)), c.requires.0, low, rw c.in_place.ensures (omega arith)),
      (bound.0, at_most_two a.above.count _ a.wanted.write bound.1),
    )

pub returns-clause-flags_after : goal.returns-clause-flags_after
returns-clause-flags_after c =
    let a = c.args in
    rw (c.in_place-2.ensures, c.join-rights.ensures.0, c.join-rights.ensures.1, c.collect-count-2.ensures.flags_after)
    (step.to-table a.space.registers a.space.entry a.wanted a.level a.at (handed_by a.above a.flags.now) a.e (passed (goal.at.returns-clause-flags_after c).Else-lacks)
    (sym c.is_leaf.ensures ∙ c.if-is_leaf.false))
