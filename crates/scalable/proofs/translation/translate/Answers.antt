use mathlib.Core.Path.{◌≡◌, ap, sym, ◌∙◌, subst}
use Rattle.std.proofs.lemmas.Result.{err_from_is_err_and}
use Rattle.image.specs.Answers.{memory_of}
use Rattle.image.specs.Memory.{Memory}
use Rattle.image.specs.Place.{Place, no_entry, last_tried}
use Rattle.image.specs.Rules.{Rules, run}
use Rattle.scalable.specs.Answers.{TranslationNames}
use Rattle.scalable.specs.Lookup.{Lookup, lookup_rules}
use Rattle.scalable.specs.Requests.{Translation, looked_up, translation_rules}
use Rattle.scalable.proofs.Found.{looked-up, looked-up-at, Finds, finds}
use Rattle.pasid.specs.declared.ScalableRegisters.{ScalableRegisters}
use Rattle.scalable.specs.declared.ScalableRequest.{ScalableRequest}
use Rattle.scalable.proofs.translation.translate.Goals as goal

-- what follows the lookup
module _ (registers : ScalableRegisters) (q : ScalableRequest) (m : Memory) where
  abbrev first : Rules Lookup
  first = lookup_rules registers q.pasid q.source.id

  abbrev next : Lookup → Rules Translation
  next = looked_up registers q.address q.write

  abbrev whole : Rules Translation
  whole = translation_rules registers q.address q.write q.pasid q.source.id

  ran : {l : Lookup} → l ≡ run first m → run (next l) m ≡ run whole m
  ran told = ap (λ (x : Lookup). run (next x) m) told ∙ sym (looked-up registers q.address q.write q.pasid q.source.id m)

  stopped : {l : Lookup} {place : Place} → l ≡ run first m → place ≡ last_tried no_entry first m → last_tried place (next l) m ≡ last_tried no_entry whole m
  stopped {l} told there =
      ap (λ (p : Place). last_tried p (next l) m) there
      ∙ ap (λ (x : Lookup). last_tried (last_tried no_entry first m) (next x) m) told
      ∙ sym (looked-up-at registers q.address q.write q.pasid q.source.id m no_entry)

pub returns-in_err-found-clause-flags_after : goal.returns-in_err-found-clause-flags_after
unfolding run
returns-in_err-found-clause-flags_after c =
    let a = c.args in
    let p = err_from_is_err_and c.from_residual.result c.from_residual.ensures.1 in
    rw (p.1, p.2) (ran a.registers a.request (memory_of a.memory.now) c.in_err-found.ensures.result_value)

pub returns-in_err-found-clause-translation_names : goal.returns-in_err-found-clause-translation_names
unfolding last_tried
returns-in_err-found-clause-translation_names c =
    let a = c.args in
    let e = c.in_err-found.ensures in
    let p = err_from_is_err_and c.from_residual.result c.from_residual.ensures.1 in
    rw (p.1, p.2) (stopped a.registers a.request (memory_of a.memory.now) e.result_value (e.result_value_2 no_entry))

pub translate_in-requires : goal.translate_in-requires
translate_in-requires c =
    let a = c.args in
    let good = Finds a.registers c.requires.1 in (
      subst good (sym c.in_ok-found.ensures.result_value) (finds a.registers c.requires.1 a.request.pasid a.request.source.id (memory_of a.memory.now)),
      c.requires.2,
    )

pub returns-clause-flags_after : goal.returns-clause-flags_after
returns-clause-flags_after c =
    let a = c.args in
    c.translate_in.ensures.flags_after ∙ ran a.registers a.request (memory_of a.memory.now) c.in_ok-found.ensures.result_value

pub returns-clause-translation_names : goal.returns-clause-translation_names
returns-clause-translation_names c =
    let a = c.args in
    let e = c.in_ok-found.ensures in
    subst (λ (place : Place). TranslationNames c.translate_in.result place) (stopped a.registers a.request (memory_of a.memory.now) e.result_value (e.result_value_2 no_entry)) c.translate_in.ensures.translation_names
