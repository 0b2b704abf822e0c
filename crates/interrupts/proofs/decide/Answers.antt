use Rattle.std.proofs.Common.{◌≡◌, Ok, sym, ap, ap₂, ◌∙◌}
use Rattle.image.specs.Memory.{Memory}
use Rattle.image.specs.Place.{stopped_at}
use Rattle.image.specs.Rules.{run}
use Rattle.image.specs.Answers.{memory_of}
use Rattle.registers.specs.Answers.{admitted_of}
use Rattle.registers.specs.declared.Registers.{Registers}
use Rattle.interrupts.specs.declared.InterruptRequest.{InterruptRequest}
use Rattle.interrupts.specs.Interrupts.{InterruptOutcome, concerned, interrupt_place, interrupt_rules}
use Rattle.interrupts.proofs.Admissions.{table-placed, refuses-bad, refuses, passes, takes, takes_at_lem}
use Rattle.interrupts.proofs.decide.Goals as goal

-- an answer that ends the request here has the place of the rules
placed : (registers : Registers) (request : InterruptRequest) (m : Memory) {o : InterruptOutcome} → o ≡ run (interrupt_rules registers request) m
    → concerned o (stopped_at (interrupt_rules registers request) m) ≡ interrupt_place registers request m
placed registers request m is = ap (λ o. concerned o (stopped_at (interrupt_rules registers request) m)) is

pub returns-then-bad-clause-result_value : goal.returns-then-bad-clause-result_value
returns-then-bad-clause-result_value c =
    let a = c.args in
    refuses-bad a.registers a.request (memory_of a.memory.now) (sym c.bad.ensures ∙ c.if-bad.true)

pub returns-then-bad-clause-result_value_2 : goal.returns-then-bad-clause-result_value_2
returns-then-bad-clause-result_value_2 c =
    let a = c.args in
    let m = memory_of a.memory.now in
    placed a.registers a.request m (refuses-bad a.registers a.request m (sym c.bad.ensures ∙ c.if-bad.true))

pub decide_taken-requires : goal.decide_taken-requires
decide_taken-requires c =
    table-placed c.args.registers _ _ (sym (ap (λ a. admitted_of (Ok a)) c.in-Ok-Taken.field-0-is) ∙ c.in-Ok-Taken.ensures)

pub returns-in-Err-clause-result_value : goal.returns-in-Err-clause-result_value
returns-in-Err-clause-result_value c =
    let a = c.args in
    rw c.number.ensures (refuses a.registers a.request (memory_of a.memory.now) c.in_interrupt_range.ensures c.in-Err.ensures)

pub returns-in-Err-clause-result_value_2 : goal.returns-in-Err-clause-result_value_2
returns-in-Err-clause-result_value_2 c =
    let a = c.args in
    let m = memory_of a.memory.now in
    placed a.registers a.request m (refuses a.registers a.request m c.in_interrupt_range.ensures c.in-Err.ensures)

pub returns-in-Ok-Passed-clause-result_value : goal.returns-in-Ok-Passed-clause-result_value
returns-in-Ok-Passed-clause-result_value c =
    let a = c.args in
    passes a.registers a.request (memory_of a.memory.now) c.in_interrupt_range.ensures (sym (ap (λ a. admitted_of (Ok a)) c.in-Ok-Passed.field-0-is) ∙ c.in-Ok-Passed.ensures)

pub returns-in-Ok-Passed-clause-result_value_2 : goal.returns-in-Ok-Passed-clause-result_value_2
returns-in-Ok-Passed-clause-result_value_2 c =
    let a = c.args in
    let m = memory_of a.memory.now in
    placed a.registers a.request m (passes a.registers a.request m c.in_interrupt_range.ensures (sym (ap (λ a. admitted_of (Ok a)) c.in-Ok-Passed.field-0-is) ∙ c.in-Ok-Passed.ensures))

pub returns-in-Ok-Taken-clause-result_value : goal.returns-in-Ok-Taken-clause-result_value
returns-in-Ok-Taken-clause-result_value c =
    let a = c.args in
    c.decide_taken.ensures.result_value
    ∙ takes a.registers a.request (memory_of a.memory.now) c.in_interrupt_range.ensures (sym (ap (λ a. admitted_of (Ok a)) c.in-Ok-Taken.field-0-is) ∙ c.in-Ok-Taken.ensures)

pub returns-in-Ok-Taken-clause-result_value_2 : goal.returns-in-Ok-Taken-clause-result_value_2
returns-in-Ok-Taken-clause-result_value_2 c =
    let a = c.args in
    let m = memory_of a.memory.now in
    let is = c.decide_taken.ensures.result_value ∙ takes a.registers a.request m c.in_interrupt_range.ensures (sym (ap (λ a. admitted_of (Ok a)) c.in-Ok-Taken.field-0-is) ∙ c.in-Ok-Taken.ensures) in
    c.decide_taken.ensures.result_value_2
    ∙ ap₂ concerned is (takes_at_lem a.registers a.request m c.in_interrupt_range.ensures (sym (ap (λ a. admitted_of (Ok a)) c.in-Ok-Taken.field-0-is) ∙ c.in-Ok-Taken.ensures))
