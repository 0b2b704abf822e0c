use mathlib.Core.Path.{◌≡◌, ap, sym, ◌∙◌}
use borrow.Author.Tests.{eq-eqb, ne_eqb}
use Rattle.std.proofs.lemmas.Result.{err_from_is_err_and}
use Rattle.image.specs.Answers.{memory_of}
use Rattle.image.specs.Place.{entry_at}
use Rattle.image.specs.Rules.{run, map_rules}
use Rattle.image.proofs.Places.{tried-map}
use Rattle.image.proofs.Trees.{run-map}
use Rattle.scalable.specs.Requests.{translated, paged_rules, type_rules}
use Rattle.scalable.proofs.translation.translate_in.Goals.{Else-walk-eq4}
use Rattle.scalable.proofs.translation.translate_in.Goals as goal

pub returns-then-walk-eq4-clause-flags_after : goal.returns-then-walk-eq4-clause-flags_after
unfolding type_rules run
returns-then-walk-eq4-clause-flags_after c = rw (eq-eqb _ 4 c.if-walk-eq4.true)

-- the walks, where PGTT isn't 4
same : (c : Else-walk-eq4) → let w = c.args.walk in
    type_rules w.space.registers w.asked.address w.asked.write w.space.entry
    ≡ map_rules translated (paged_rules w.space.registers w.asked.address w.asked.write w.space.entry)
unfolding type_rules
same c = rw (ne_eqb _ _ c.if-walk-eq4.false)

pub returns-in_err-page-clause-flags_after : goal.returns-in_err-page-clause-flags_after
returns-in_err-page-clause-flags_after c =
    let w = c.args.walk in
    let m = memory_of c.args.memory.now in
    let p = err_from_is_err_and c.from_residual.result c.from_residual.ensures.1 in
    rw (p.1, p.2, same (goal.at.returns-in_err-page-clause-flags_after c).Else-walk-eq4)
    (ap translated c.in_err-page.ensures.flags_after ∙ sym (run-map translated (paged_rules w.space.registers w.asked.address w.asked.write w.space.entry) m))

pub returns-in_err-page-clause-translation_names : goal.returns-in_err-page-clause-translation_names
returns-in_err-page-clause-translation_names c =
    let w = c.args.walk in
    let m = memory_of c.args.memory.now in
    let p = err_from_is_err_and c.from_residual.result c.from_residual.ensures.1 in
    rw (p.1, p.2, same (goal.at.returns-in_err-page-clause-translation_names c).Else-walk-eq4)
    (c.in_err-page.ensures.pages_names ∙ sym (tried-map translated (entry_at c.args.at) (paged_rules w.space.registers w.asked.address w.asked.write w.space.entry) m))

pub returns-clause-flags_after : goal.returns-clause-flags_after
returns-clause-flags_after c =
    let w = c.args.walk in
    let m = memory_of c.args.memory.now in
    rw (same (goal.at.returns-clause-flags_after c).Else-walk-eq4)
    (ap translated c.in_ok-page.ensures.flags_after ∙ sym (run-map translated (paged_rules w.space.registers w.asked.address w.asked.write w.space.entry) m))
