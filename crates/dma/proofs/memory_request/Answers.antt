use mathlib.Core.Path.{◌≡◌, ap, sym, ◌∙◌}
use Rattle.std.specs.Prelude.{Ok}
use Rattle.registers.specs.Admission.{taken_up, admission}
use Rattle.registers.specs.Answers.{admitted_of}
use Rattle.image.specs.Windows.{of_windows}
use Rattle.image.proofs.Opened.{fine, shown}
use Rattle.dma.proofs.Admissions.{taken-root, refuses-bad, refuses, passes, memory-told, memory-taken}
use Rattle.dma.proofs.Forks.{reachable}
use Rattle.dma.proofs.memory_request.Goals.{In-Ok-Taken}
use Rattle.dma.proofs.memory_request.Goals as goal

pub returns-in_default : goal.returns-in_default
returns-in_default c = let bad = c.in_default.ensures in
    record {
      result_value = rw bad;
      result_value_2 = rw bad;
    }

pub returns-then-bad : goal.returns-then-bad
returns-then-bad c =
    let a = c.args in
    let t = memory-told a.registers a.request a.windows.now a.image.now (fine c.in-Some.memory c.in-Some.ensures)
    (refuses-bad a.registers a.request _ (sym c.bad.ensures ∙ c.if-bad.true)) in
    record { result_value = t.0; result_value_2 = t.1 }

-- the request is taken up
taken : (c : In-Ok-Taken) → let k = c in
    taken_up ≡ admission k.args.registers c.in_interrupt_range.result k.args.registers.te
taken c = sym (ap admitted_of c.in-Ok-Taken.is ∙ ap (λ k. admitted_of (Ok k)) c.in-Ok-Taken.field-0-is) ∙ c.admit.ensures

pub translate-requires : goal.translate-requires
translate-requires c = taken-root _ _ _ (taken (goal.at.translate-requires c).In-Ok-Taken)

pub answer-requires : goal.answer-requires
answer-requires c =
    let a = c.args in
    rw (c.translate.ensures.result_value, shown c.in-Some.memory c.in-Some.ensures) (reachable a.registers a.request (of_windows a.windows.now a.image.now) (taken-root _ _ _ (taken (goal.at.answer-requires c).In-Ok-Taken)))

pub returns-in-Err : goal.returns-in-Err
returns-in-Err c =
    let a = c.args in
    let t = memory-told a.registers a.request a.windows.now a.image.now (fine c.in-Some.memory c.in-Some.ensures)
    (refuses a.registers a.request _ c.in_interrupt_range.ensures (sym (ap admitted_of c.in-Err.is) ∙ c.admit.ensures)) in
    record { result_value = rw c.number.ensures t.0; result_value_2 = t.1 }

pub returns-in-Ok-Passed : goal.returns-in-Ok-Passed
returns-in-Ok-Passed c =
    let a = c.args in
    let t = memory-told a.registers a.request a.windows.now a.image.now (fine c.in-Some.memory c.in-Some.ensures)
    (passes a.registers a.request _ c.in_interrupt_range.ensures (sym (ap admitted_of c.in-Ok-Passed.is ∙ ap (λ k. admitted_of (Ok k)) c.in-Ok-Passed.field-0-is) ∙ c.admit.ensures)) in
    record { result_value = t.0; result_value_2 = t.1 }

pub returns-in-Ok-Taken : goal.returns-in-Ok-Taken
returns-in-Ok-Taken c =
    let a = c.args in
    let said = c.answer.ensures in
    let there = shown c.in-Some.memory c.in-Some.ensures in
    let t = memory-taken a.registers a.request a.windows.now a.image.now (fine c.in-Some.memory c.in-Some.ensures)
    c.in_interrupt_range.ensures (taken (goal.at.returns-in-Ok-Taken c).In-Ok-Taken)
    c.answer.result c.translate.result (said.result_value, said.result_value_2) (rw there at c.translate.ensures.result_value, rw there at c.translate.ensures.names) in
    record { result_value = t.0; result_value_2 = t.1 }
