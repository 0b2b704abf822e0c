-- The lookup, then what follows a context.
use mathlib.Core.Path.{◌≡◌, refl, ap, ap₂, sym, ◌∙◌}
use Rattle.std.specs.Prelude.{Err}
use Rattle.std.proofs.lemmas.Result.{err_from_is_err_and}
use Rattle.image.specs.Answers.{memory_of}
use Rattle.image.specs.Place.{stopped_at}
use Rattle.image.specs.Rules.{run}
use Rattle.dma.specs.Answers.{lookup_of, translation_of, Names}
use Rattle.dma.specs.Translation.{fault, width_rules}
use Rattle.dma.proofs.Forks.{reachable}
use Rattle.dma.proofs.Lookups.{no-context-told, context-told, context-usable}
use Rattle.cache.specs.Engine.{rules_of}
use Rattle.cache.specs.Numbers.{state_kept}
use Rattle.cache.proofs.Looked.{context-domain, stopped-kept}
use Rattle.cache.proofs.translate_and_keep.Goals.{After-translate_in}
use Rattle.cache.proofs.translate_and_keep.Goals as goal

pub returns-in_err-found : goal.returns-in_err-found
returns-in_err-found c =
    let a = c.args in
    let m = memory_of a.memory.now in
    let looks = c.find_context.ensures in
    let p = err_from_is_err_and c.from_residual.result c.from_residual.ensures.1 in
    let t = no-context-told translation_of Names a.registers fault (width_rules a.registers a.request.address a.request.write)
    m a.request.source.id (looks.result_value, looks.result_value_2)
    (Err c.in_err-found.field-0.0) c.in_err-found.was (refl, refl) in
    record {
      result_value = rw (p.1, p.2) t.0;
      names = rw (p.1, p.2) t.1;
      state_after = stopped-kept a.registers a.request m _ _ (sym looks.result_value ∙ ap lookup_of c.in_err-found.was) a.state.now _;
    }

pub translate_in-requires : goal.translate_in-requires
translate_in-requires c =
    let a = c.args in
    let looks = c.find_context.ensures in
    context-usable translation_of Names a.registers fault (width_rules a.registers a.request.address a.request.write)
    (memory_of a.memory.now) a.request.source.id (looks.result_value, looks.result_value_2) c.in_ok-found.was

-- what is answered, and the entry that it names
told : (c : After-translate_in) → let a = c.args in
    (translation_of c.translate_in.result ≡ run (rules_of a.registers a.request) (memory_of a.memory.now))
    × Names c.translate_in.result (stopped_at (rules_of a.registers a.request) (memory_of a.memory.now))
told c =
    let a = c.args in
    let looks = c.find_context.ensures in
    let went = c.translate_in.ensures in
    context-told translation_of Names a.registers fault (width_rules a.registers a.request.address a.request.write)
    (memory_of a.memory.now) a.request.source.id (looks.result_value, looks.result_value_2)
    c.translate_in.result c.in_ok-found.was (went.result_value, went.names)

pub returns-in_err-translated : goal.returns-in_err-translated
returns-in_err-translated c =
    let a = c.args in
    let m = memory_of a.memory.now in
    let p = err_from_is_err_and c.from_residual-in_err-translated.result c.from_residual-in_err-translated.ensures.1 in
    let t = told (goal.at.returns-in_err-translated c).After-translate_in in
    let is = rw c.in_err-translated.was at t.0 in
    record {
      result_value = rw (p.1, p.2) is;
      names = rw (p.1, p.2) (rw c.in_err-translated.was at t.1);
      state_after = rw (← is);
    }

pub keep-requires : goal.keep-requires
keep-requires c =
    let a = c.args in
    let is = rw c.in_ok-translated.was at (told (goal.at.keep-requires c).After-translate_in).0 in
    rw is (reachable a.registers a.request (memory_of a.memory.now) c.requires)

pub returns : goal.returns
returns c =
    let a = c.args in
    let m = memory_of a.memory.now in
    let found = sym c.find_context.ensures.result_value ∙ ap lookup_of c.in_ok-found.was in
    let t = told (goal.at.returns c).After-translate_in in
    let is = rw c.in_ok-translated.was at t.0 in
    record {
      result_value = is;
      names = rw c.in_ok-translated.was at t.1;
      state_after = c.keep.ensures
          ∙ ap₂ (λ r d. state_kept a.state.now a.request r d) is (sym (context-domain a.registers a.request m _ found));
    }
