use Rattle.std.proofs.Common.{Ok, refl, ap, ◌∙◌, subst}
use Rattle.image.specs.Place.{Place}
use Rattle.image.specs.Answers.{memory_of}
use Rattle.interrupts.specs.Answers.{DeliveryNames, request_checked}
use Rattle.interrupts.specs.Interrupts.{blocked}
use Rattle.interrupts.proofs.Admissions.{stops, stops_at_lem, compatible, indexed, indexed-at}
use Rattle.interrupts.proofs.decide_taken.Goals as goal

pub returns-in-Ok-None-clause-result_value : goal.returns-in-Ok-None-clause-result_value
returns-in-Ok-None-clause-result_value c =
    let a = c.args in
    compatible a.registers a.request (memory_of a.memory.now) c.in-Ok-None.ensures (ap (λ f. request_checked (Ok f)) c.in-Ok-None.field-0-is)

pub returns-in-Ok-Some-clause-result_value : goal.returns-in-Ok-Some-clause-result_value
returns-in-Ok-Some-clause-result_value c =
    let a = c.args in
    c.answer_of.ensures.result_value
    ∙ indexed a.registers a.request (memory_of a.memory.now) c.in-Ok-Some.ensures (ap (λ f. request_checked (Ok f)) c.in-Ok-Some.field-0-is) c.follow_index-delivery.ensures.result_value

pub returns-in-Ok-Some-clause-result_value_2 : goal.returns-in-Ok-Some-clause-result_value_2
returns-in-Ok-Some-clause-result_value_2 c =
    let a = c.args in
    let place = indexed-at a.registers a.request (memory_of a.memory.now) c.in-Ok-Some.ensures (ap (λ f. request_checked (Ok f)) c.in-Ok-Some.field-0-is) in
    c.answer_of.ensures.result_value_2 _
    (subst (λ (p : Place). DeliveryNames c.follow_index-delivery.result p) place c.follow_index-delivery.ensures.delivery_names)

pub returns-in-Err-clause-result_value : goal.returns-in-Err-clause-result_value
returns-in-Err-clause-result_value c =
    let a = c.args in
    ap blocked c.interrupt_fault.ensures ∙ stops a.registers a.request (memory_of a.memory.now) c.in-Err.ensures refl

pub returns-in-Err-clause-result_value_2 : goal.returns-in-Err-clause-result_value_2
returns-in-Err-clause-result_value_2 c =
    let a = c.args in
    stops_at_lem a.registers a.request (memory_of a.memory.now) c.in-Err.ensures refl
