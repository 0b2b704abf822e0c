use mathlib.Core.Path.{◌≡◌, ap, sym, ◌∙◌, subst}
use native.Mathlib.Omega.{arith}
use lib.ListN.{length}
use Rattle.std.specs.Prelude.{Ok}
use Rattle.std.proofs.lemmas.Result.{err_from_is_err_and}
use Rattle.image.specs.Answers.{memory_of}
use Rattle.image.proofs.Opened.{fine}
use Rattle.registers.specs.Admission.{taken_up, admission}
use Rattle.registers.specs.Answers.{admitted_of}
use Rattle.registers.specs.Refusal.{refusal_number}
use Rattle.registers.proofs.Good.{taken-good}
use Rattle.dma.proofs.Admissions.{taken-root}
use Rattle.regions.specs.Known.{Sound}
use Rattle.regions.specs.Outside.{table_outside}
use Rattle.regions.proofs.KnownTables.{sound-zero}
use Rattle.mapping.specs.Answers.{told_as}
use Rattle.mapping.specs.Mapping.{Mapped}
use Rattle.mapping.specs.Told.{ListedAs}
use Rattle.mapping.specs.Told as told
use Rattle.mapping.proofs.Outcomes.{told-refused, told-passed, answer-bad, answer-refused, answer-passed, answer-taken}
use Rattle.mapping.proofs.list_spans.Goals.{In-Taken}
use Rattle.mapping.proofs.list_spans.Goals as goal
use mathlib.Core.Bool.{false}

pub returns-in_default-clause-listed_as : goal.returns-in_default-clause-listed_as
returns-in_default-clause-listed_as c =
    let a = c.args in
    subst (λ (k : Mapped). ListedAs k a.rows.now a.rows.now (told.refused 1))
    (sym (answer-bad a.registers a.source.id a.windows.now a.image.now c.in_default.ensures)) (told-refused 1 a.rows.now)

pub returns-in_err-admit-clause-listed_as : goal.returns-in_err-admit-clause-listed_as
returns-in_err-admit-clause-listed_as c =
    let a = c.args in
    let p = err_from_is_err_and c.from_residual.result c.from_residual.ensures.1 in
    let is = sym (ap admitted_of c.in_err-admit.was) ∙ c.admit.ensures in
    rw (p.1, p.2)
    (subst (λ (k : Mapped). ListedAs k a.rows.now a.rows.now (told.refused (refusal_number c.in_err-admit.field-0.0)))
    (sym (answer-refused a.registers a.source.id a.windows.now a.image.now (fine c.in-Some.memory c.in-Some.ensures) _ is)) (told-refused _ a.rows.now))

-- the listing is taken up
taken : (c : In-Taken) → taken_up ≡ admission c.args.registers false c.args.registers.te
taken c = sym (ap (λ k. admitted_of (Ok k)) c.in-Taken.is) ∙ c.in_ok-admit.ensures

pub list_source-listing-requires : goal.list_source-listing-requires
list_source-listing-requires c =
    let a = c.args in
    let m = c.in-Some.memory in
    let up = taken (goal.at.list_source-listing-requires c).In-Taken in (
      taken-root a.registers _ _ up,
      omega (arith, (taken-good a.registers _ _ up).mgaw.least),
      subst (Sound a.registers (memory_of m) (table_outside m.windows.now)) (sym c.forget.ensures) (sound-zero a.registers (memory_of m) (table_outside m.windows.now) (length a.known.now)),
    )

pub returns-in-Passed-clause-listed_as : goal.returns-in-Passed-clause-listed_as
returns-in-Passed-clause-listed_as c =
    let a = c.args in
    let is = sym (ap (λ k. admitted_of (Ok k)) c.in-Passed.is) ∙ c.in_ok-admit.ensures in
    subst (λ (k : Mapped). ListedAs k a.rows.now a.rows.now told.passed)
    (sym (answer-passed a.registers a.source.id a.windows.now a.image.now (fine c.in-Some.memory c.in-Some.ensures) is)) (told-passed a.rows.now)

pub returns-in-Taken-clause-listed_as : goal.returns-in-Taken-clause-listed_as
returns-in-Taken-clause-listed_as c =
    let a = c.args in
    let up = taken (goal.at.returns-in-Taken-clause-listed_as c).In-Taken in
    let listed = rw (c.in-Some.ensures.1, c.in-Some.ensures.2) at c.list_source-listing.ensures.listed_as in
    subst (λ (k : Mapped). ListedAs k a.rows.now c.list_source-listing.new.rows (told_as (Ok c.list_source-listing.result)))
    (sym (answer-taken a.registers a.source.id a.windows.now a.image.now (fine c.in-Some.memory c.in-Some.ensures) up)) listed
