use mathlib.Core.Path.{ap, sym, ◌∙◌, subst}
use lib.ListN.{take}
use Rattle.image.specs.Answers.{memory_of}
use Rattle.image.specs.Place.{entry_at, last_tried}
use Rattle.image.specs.Rules.{run}
use Rattle.second.specs.Answers.{Names}
use Rattle.nested.specs.Pages.{intermediate_rules}
use Rattle.nested.specs.Positions.{wanted_at}
use Rattle.nested.proofs.Nested.{beyond, beyond-at, within}
use Rattle.nested.proofs.way.intermediate.Goals as goal

pub returns-then-overflows-clause-flags_after : goal.returns-then-overflows-clause-flags_after
returns-then-overflows-clause-flags_after c =
    let a = c.args in
    rw c.stop.ensures
    (beyond a.walk.space.registers a.walk.space.entry (wanted_at a.walk.space.entry a.walk.asked.write a.position.level) a.address (take a.position.count a.flags.now) (memory_of a.memory.now) (sym c.overflows.ensures ∙ c.if-overflows.true))

pub returns-then-overflows-clause-names : goal.returns-then-overflows-clause-names
returns-then-overflows-clause-names c =
    let a = c.args in
    rw c.stop.ensures
    (beyond-at a.walk.space.registers a.walk.space.entry (wanted_at a.walk.space.entry a.walk.asked.write a.position.level) a.address (take a.position.count a.flags.now) (memory_of a.memory.now) (entry_at a.position.last) (sym c.overflows.ensures ∙ c.if-overflows.true))

pub returns-clause-flags_after : goal.returns-clause-flags_after
returns-clause-flags_after c =
    let a = c.args in
    let asked = c.wanted_at-wanted in
    let same = within a.walk.space.registers a.walk.space.entry asked.result a.address (take a.position.count a.flags.now) (sym c.overflows.ensures ∙ c.if-overflows.false) in
    let is = same ∙ ap (λ w. intermediate_rules a.walk.space.registers a.walk.space.entry w a.address (take a.position.count a.flags.now)) asked.ensures in
    c.second_walk.ensures.flags_after ∙ ap (λ q. run q (memory_of a.memory.now)) is

pub returns-clause-names : goal.returns-clause-names
returns-clause-names c =
    let a = c.args in
    let asked = c.wanted_at-wanted in
    let same = within a.walk.space.registers a.walk.space.entry asked.result a.address (take a.position.count a.flags.now) (sym c.overflows.ensures ∙ c.if-overflows.false) in
    let is = same ∙ ap (λ w. intermediate_rules a.walk.space.registers a.walk.space.entry w a.address (take a.position.count a.flags.now)) asked.ensures in
    subst (λ q. Names c.second_walk.result (last_tried (entry_at a.position.last) q (memory_of a.memory.now))) is (c.second_walk.ensures.names (entry_at a.position.last))
