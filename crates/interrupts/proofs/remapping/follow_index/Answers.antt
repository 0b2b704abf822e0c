use Rattle.std.proofs.Common.{◌≡◌, ◌+◌, ◌*◌, ◌^◌, false, leb, Ok, sym, ap, ◌∙◌}
use Rattle.std.proofs.lemmas.Result.{err_from_is_err_and}
use Rattle.image.specs.Answers.{memory_of}
use Rattle.image.specs.Place.{entry_at, last_tried, stopped_at}
use Rattle.image.specs.Rules.{run}
use Rattle.irte.specs.Answers.{asked_of}
use Rattle.irte.specs.declared.Irte.TheVariants.{Posts}
use Rattle.interrupts.specs.Interrupts.{Delivery, index_rules}
use Rattle.interrupts.proofs.Raised.{asked-aligned}
use Rattle.interrupts.proofs.Stages.{on_asked, out_of_range, out-of-range-at, no-entry, no-entry-at, entry-checked, entry-checked-at, descriptor-place}
use Rattle.interrupts.proofs.remapping.follow_index.Goals.{After-entry, After-irte_check, In-Posts}
use Rattle.interrupts.proofs.remapping.follow_index.Goals as goal

pub returns-then-at_or_above_power-clause-result_value : goal.returns-then-at_or_above_power-clause-result_value
returns-then-at_or_above_power-clause-result_value c =
    let a = c.args in
    out_of_range (memory_of a.memory.now) a.registers a.source.id a.index (sym c.at_or_above_power.ensures ∙ c.if-at_or_above_power.true)

pub returns-then-at_or_above_power-clause-delivery_names : goal.returns-then-at_or_above_power-clause-delivery_names
returns-then-at_or_above_power-clause-delivery_names c =
    let a = c.args in
    out-of-range-at (memory_of a.memory.now) a.registers a.source.id a.index (sym c.at_or_above_power.ensures ∙ c.if-at_or_above_power.true)

-- the index is one of the table's
inside : (c : After-entry) → leb (2 ^ (c.args.registers.s + 1)) c.args.index ≡ false
inside c = sym c.at_or_above_power.ensures ∙ c.if-at_or_above_power.false

pub returns-in_default-clause-result_value : goal.returns-in_default-clause-result_value
returns-in_default-clause-result_value c =
    let a = c.args in
    no-entry (memory_of a.memory.now) a.registers a.source.id a.index
    (inside (goal.at.returns-in_default-clause-result_value c).After-entry) c.in_default.ensures.result_value

pub returns-in_default-clause-delivery_names : goal.returns-in_default-clause-delivery_names
returns-in_default-clause-delivery_names c =
    let a = c.args in
    no-entry-at (memory_of a.memory.now) a.registers a.source.id a.index
    (inside (goal.at.returns-in_default-clause-delivery_names c).After-entry) c.in_default.ensures.result_value

-- what follows what the check says is what the rules give
asks : (c : After-irte_check) {d : Delivery}
    → d ≡ run (on_asked c.args.registers.eime (asked_of c.irte_check.result)) (memory_of c.args.memory.now)
    → d ≡ run (index_rules c.args.registers c.args.source.id c.args.index) (memory_of c.args.memory.now)
asks c =
    let a = c.args in
    entry-checked (memory_of a.memory.now) a.registers a.source.id a.index
    (sym c.at_or_above_power.ensures ∙ c.if-at_or_above_power.false) c.in-Ok.ensures.result_value c.irte_check.ensures.result_value

-- and it stops where the rules stop
stops : (c : After-irte_check)
    → last_tried (entry_at (c.args.registers.interrupt_table + 16 * c.args.index)) (on_asked c.args.registers.eime (asked_of c.irte_check.result)) (memory_of c.args.memory.now)
    ≡ stopped_at (index_rules c.args.registers c.args.source.id c.args.index) (memory_of c.args.memory.now)
stops c =
    let a = c.args in
    entry-checked-at (memory_of a.memory.now) a.registers a.source.id a.index
    (sym c.at_or_above_power.ensures ∙ c.if-at_or_above_power.false) c.in-Ok.ensures.result_value c.irte_check.ensures.result_value

pub returns-in_err-irte-clause-result_value : goal.returns-in_err-irte-clause-result_value
unfolding run
returns-in_err-irte-clause-result_value c =
    let p = err_from_is_err_and c.from_residual.result c.from_residual.ensures.1 in
    rw (p.1, p.2) (asks (goal.at.returns-in_err-irte-clause-result_value c).After-irte_check (rw c.in_err-irte.was))

pub returns-in_err-irte-clause-delivery_names : goal.returns-in_err-irte-clause-delivery_names
unfolding last_tried
returns-in_err-irte-clause-delivery_names c =
    let p = err_from_is_err_and c.from_residual.result c.from_residual.ensures.1 in
    let there = stops (goal.at.returns-in_err-irte-clause-delivery_names c).After-irte_check in
    rw (p.1, p.2) (c.in_err-irte.ensures.irte_names ∙ (rw c.in_err-irte.was at there))

-- where it asks for a post
asked-post : (c : In-Posts) → c.irte_check.result ≡ Ok (Posts c.in-Posts.descriptor c.in-Posts.vector c.in-Posts.urgent c.in-Posts.fpd)
asked-post c = c.in_ok-irte.was ∙ ap Ok c.in-Posts.is

pub follow_descriptor-requires : goal.follow_descriptor-requires
follow_descriptor-requires c =
    asked-aligned c.args.registers c.args.source.id _ (rw c.in-Posts.is at c.in_ok-irte.ensures.result_value)

pub returns-in_err-posted-in-Posts-clause-result_value : goal.returns-in_err-posted-in-Posts-clause-result_value
returns-in_err-posted-in-Posts-clause-result_value c =
    let here = goal.at.returns-in_err-posted-in-Posts-clause-result_value c in
    let p = err_from_is_err_and c.from_residual-in_err-posted-in-Posts.result c.from_residual-in_err-posted-in-Posts.ensures.1 in
    rw (p.1, p.2) (asks here.After-irte_check (rw (asked-post here.In-Posts) c.in_err-posted-in-Posts.ensures.result_value))

pub returns-in_err-posted-in-Posts-clause-delivery_names : goal.returns-in_err-posted-in-Posts-clause-delivery_names
returns-in_err-posted-in-Posts-clause-delivery_names c =
    let a = c.args in
    let here = goal.at.returns-in_err-posted-in-Posts-clause-delivery_names c in
    let p = err_from_is_err_and c.from_residual-in_err-posted-in-Posts.result c.from_residual-in_err-posted-in-Posts.ensures.1 in
    let there = stops here.After-irte_check in
    rw (p.1, p.2)
    (c.in_err-posted-in-Posts.ensures.post_names
    ∙ descriptor-place (memory_of a.memory.now) a.registers.eime _ _ _ _ (entry_at (a.registers.interrupt_table + 16 * a.index))
    ∙ (rw (asked-post here.In-Posts) at there))

pub returns-in-Remaps-clause-result_value : goal.returns-in-Remaps-clause-result_value
unfolding run
returns-in-Remaps-clause-result_value c =
    let told = c.in_ok-irte.was ∙ ap Ok c.in-Remaps.is in
    asks (goal.at.returns-in-Remaps-clause-result_value c).After-irte_check (rw told)

pub returns-in_ok-posted-in-Posts-clause-result_value : goal.returns-in_ok-posted-in-Posts-clause-result_value
returns-in_ok-posted-in-Posts-clause-result_value c =
    let here = goal.at.returns-in_ok-posted-in-Posts-clause-result_value c in
    asks here.After-irte_check (rw (asked-post here.In-Posts) c.in_ok-posted-in-Posts.ensures.result_value)
