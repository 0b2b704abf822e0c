use Prim.Native.Nat.{◌<◌}
use mathlib.Core.Path.{◌≡◌, ap, sym, ◌∙◌, subst}
use Rattle.std.specs.Prelude.{Ok}
use Rattle.image.specs.Windows.{of_windows}
use Rattle.image.proofs.Opened.{fine, shown}
use Rattle.registers.specs.Admission.{taken_up, admission}
use Rattle.registers.specs.Answers.{admitted_of}
use Rattle.dma.specs.Requests.{granted, memory_outcome}
use Rattle.dma.proofs.Admissions.{taken-root}
use Rattle.dma.proofs.Forks.{reachable}
use Rattle.cache.specs.Numbers.{held_address}
use Rattle.cache.proofs.Answered.{state-refuses, state-passes, state-hits, state-misses}
use Rattle.cache.proofs.Caches.{newest-long}
use Rattle.cache.proofs.cached_request.Goals.{After-newest}
use Rattle.cache.proofs.cached_request.Goals as goal

pub returns-in_default : goal.returns-in_default
returns-in_default c =
    let bad = c.in_default.ensures in
    record { result_value = rw bad; result_value_2 = rw bad; state_after = rw bad }

-- the request is taken up
taken : (c : After-newest) → taken_up ≡ admission c.args.registers c.in_interrupt_range.result c.args.registers.te
taken c = sym (ap admitted_of c.in-Ok-Taken.is ∙ ap (λ k. admitted_of (Ok k)) c.in-Ok-Taken.field-0-is) ∙ c.admit.ensures

pub held_address-requires : goal.held_address-requires
held_address-requires c =
    let a = c.args in
    let hit = c.in-Some-newest.ensures in
    (newest-long a.state.now a.request (subst (λ n. n < 64) hit.0 hit.1), hit.1)

pub returns-in-Some-newest : goal.returns-in-Some-newest
returns-in-Some-newest c =
    let a = c.args in
    let m = of_windows a.windows.now a.image.now in
    let st = a.state.now in
    let hit = c.in-Some-newest.ensures in
    let is = state-hits a.registers st a.request m c.in_interrupt_range.ensures (taken (goal.at.returns-in-Some-newest c).After-newest) (subst (λ n. n < 64) hit.0 hit.1) in
    let good = fine c.in-Some.memory c.in-Some.ensures in
    let told = ap granted (c.held_address.ensures ∙ ap (λ x. held_address st x a.request.address) hit.0) in
    record { result_value = rw good (told ∙ is.0); result_value_2 = rw good is.1; state_after = rw good is.2 }

pub translate_and_keep-translated-requires : goal.translate_and_keep-translated-requires
translate_and_keep-translated-requires c = taken-root _ _ _ (taken (goal.at.translate_and_keep-translated-requires c).After-newest)

pub answer-requires : goal.answer-requires
answer-requires c =
    let a = c.args in
    rw (c.translate_and_keep-translated.ensures.result_value, shown c.in-Some.memory c.in-Some.ensures) (reachable a.registers a.request (of_windows a.windows.now a.image.now) (taken-root _ _ _ (taken (goal.at.answer-requires c).After-newest)))

pub returns-in-Err : goal.returns-in-Err
returns-in-Err c =
    let a = c.args in
    let m = of_windows a.windows.now a.image.now in
    let is = state-refuses a.registers a.state.now a.request m c.in_interrupt_range.ensures (sym (ap admitted_of c.in-Err.is) ∙ c.admit.ensures) in
    let good = fine c.in-Some.memory c.in-Some.ensures in
    record { result_value = rw (c.number.ensures, good) is.0; result_value_2 = rw good is.1; state_after = rw good is.2 }

pub returns-in-Ok-Passed : goal.returns-in-Ok-Passed
returns-in-Ok-Passed c =
    let a = c.args in
    let m = of_windows a.windows.now a.image.now in
    let told = sym (ap admitted_of c.in-Ok-Passed.is ∙ ap (λ k. admitted_of (Ok k)) c.in-Ok-Passed.field-0-is) ∙ c.admit.ensures in
    let is = state-passes a.registers a.state.now a.request m c.in_interrupt_range.ensures told in
    let good = fine c.in-Some.memory c.in-Some.ensures in
    record { result_value = rw good is.0; result_value_2 = rw good is.1; state_after = rw good is.2 }

pub returns-in_default-newest : goal.returns-in_default-newest
returns-in_default-newest c =
    let a = c.args in
    let st = a.state.now in
    let there = shown c.in-Some.memory c.in-Some.ensures in
    let kept = c.translate_and_keep-translated.ensures in
    let is =
    state-misses a.registers st a.request (of_windows a.windows.now a.image.now) c.in_interrupt_range.ensures (taken (goal.at.returns-in_default-newest c).After-newest) c.in_default-newest.ensures _ _ _
    (c.answer.ensures.result_value ∙ ap (memory_outcome a.request) (rw there at kept.result_value))
    (c.answer.ensures.result_value_2 _ (rw there at kept.names)) (rw there at kept.state_after) in
    let good = fine c.in-Some.memory c.in-Some.ensures in
    record { result_value = rw good is.0; result_value_2 = rw good is.1; state_after = rw good is.2 }
