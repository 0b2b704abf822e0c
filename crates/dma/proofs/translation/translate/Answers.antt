-- The lookup, then what follows a context.
use mathlib.Core.Path.{refl}
use Rattle.std.specs.Prelude.{Err}
use Rattle.std.proofs.lemmas.Result.{err_from_is_err_and}
use Rattle.image.specs.Answers.{memory_of}
use Rattle.dma.specs.Answers.{translation_of, Names}
use Rattle.dma.specs.Translation.{fault, width_rules}
use Rattle.dma.proofs.Lookups.{no-context-told, context-told, context-usable}
use Rattle.dma.proofs.translation.translate.Goals as goal

pub returns-in_err-found : goal.returns-in_err-found
returns-in_err-found c =
    let a = c.args in
    let looks = c.find_context.ensures in
    let p = err_from_is_err_and c.from_residual.result c.from_residual.ensures.1 in
    let t = no-context-told translation_of Names a.registers fault (width_rules a.registers a.request.address a.request.write)
    (memory_of a.memory.now) a.request.source.id (looks.result_value, looks.result_value_2)
    (Err c.in_err-found.field-0.0) c.in_err-found.was (refl, refl) in
    record { result_value = rw (p.1, p.2) t.0; names = rw (p.1, p.2) t.1 }

pub translate_in-requires : goal.translate_in-requires
translate_in-requires c =
    let a = c.args in
    let looks = c.find_context.ensures in
    context-usable translation_of Names a.registers fault (width_rules a.registers a.request.address a.request.write)
    (memory_of a.memory.now) a.request.source.id (looks.result_value, looks.result_value_2) c.in_ok-found.was

pub returns : goal.returns
returns c =
    let a = c.args in
    let looks = c.find_context.ensures in
    let told = c.translate_in.ensures in
    let t = context-told translation_of Names a.registers fault (width_rules a.registers a.request.address a.request.write)
    (memory_of a.memory.now) a.request.source.id (looks.result_value, looks.result_value_2)
    c.translate_in.result c.in_ok-found.was (told.result_value, told.names) in
    record { result_value = t.0; names = t.1 }
