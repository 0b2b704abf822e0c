-- The lookup, then what follows a context.
use mathlib.Core.Path.{refl}
use Rattle.std.specs.Prelude.{Err}
use Rattle.std.proofs.lemmas.Result.{err_from_is_err_and}
use Rattle.image.specs.Answers.{memory_of}
use Rattle.dma.proofs.Lookups.{no-context-told, context-told, context-usable}
use Rattle.translation.specs.Answers.{completion_of, Names}
use Rattle.translation.specs.Completion.{fault, type_rules}
use Rattle.translation.proofs.completion.complete.Goals as goal

pub returns-in_err-found : goal.returns-in_err-found
returns-in_err-found c =
    let a = c.args in
    let looks = c.find_context.ensures in
    let p = err_from_is_err_and c.from_residual.result c.from_residual.ensures.1 in
    let t = no-context-told completion_of Names a.registers fault (type_rules a.registers a.request.address)
    (memory_of a.memory.now) a.request.source.id (looks.result_value, looks.result_value_2)
    (Err c.in_err-found.field-0.0) c.in_err-found.was (refl, refl) in
    record { result_value = rw (p.1, p.2) t.0; names = rw (p.1, p.2) t.1 }

pub complete_in-requires : goal.complete_in-requires
complete_in-requires c =
    let a = c.args in
    let looks = c.find_context.ensures in
    context-usable completion_of Names a.registers fault (type_rules a.registers a.request.address)
    (memory_of a.memory.now) a.request.source.id (looks.result_value, looks.result_value_2) c.in_ok-found.was

pub returns : goal.returns
returns c =
    let a = c.args in
    let looks = c.find_context.ensures in
    let told = c.complete_in.ensures in
    let t = context-told completion_of Names a.registers fault (type_rules a.registers a.request.address)
    (memory_of a.memory.now) a.request.source.id (looks.result_value, looks.result_value_2)
    c.complete_in.result c.in_ok-found.was (told.result_value, told.names) in
    record { result_value = t.0; names = t.1 }
