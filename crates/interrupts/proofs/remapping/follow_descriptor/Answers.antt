use Rattle.std.proofs.lemmas.Result.{err_from_is_err_and}
use Rattle.image.specs.Answers.{memory_of}
use Rattle.interrupts.proofs.Stages.{no-descriptor, descriptor-checked}
use Rattle.interrupts.proofs.remapping.follow_descriptor.Goals as goal

pub returns-in_default-clause-result_value : goal.returns-in_default-clause-result_value
returns-in_default-clause-result_value c =
    let a = c.args in
    no-descriptor (memory_of a.memory.now) a.eime a.urgent a.fpd a.vector a.at c.in_default.ensures.result_value

pub returns-in_err-notification-clause-result_value : goal.returns-in_err-notification-clause-result_value
returns-in_err-notification-clause-result_value c =
    let a = c.args in
    let p = err_from_is_err_and c.from_residual.result c.from_residual.ensures.1 in
    rw (p.1, p.2, c.in_err-notification.ensures.fpd_value)
    (descriptor-checked (memory_of a.memory.now) a.eime a.urgent a.fpd a.vector a.at c.in-Ok.ensures.result_value c.in_err-notification.ensures.result_value)

pub returns-clause-result_value : goal.returns-clause-result_value
returns-clause-result_value c =
    let a = c.args in
    descriptor-checked (memory_of a.memory.now) a.eime a.urgent a.fpd a.vector a.at c.in-Ok.ensures.result_value c.in_ok-notification.ensures.result_value
