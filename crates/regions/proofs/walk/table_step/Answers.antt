use Prim.Native.Nat.{◌+◌, ◌-◌}
use mathlib.Core.Bool.{false}
use mathlib.Core.Path.{◌≡◌, ap, sym, ◌∙◌}
use native.Mathlib.Omega.{arith}
use Rattle.std.specs.Prelude.{Ok}
use Rattle.image.specs.Answers.{memory_of}
use Rattle.dma.specs.Walk.{done}
use Rattle.translation.specs.Answers.{step_of}
use Rattle.translation.specs.Completion.{Completion, entry_over}
use Rattle.translation.proofs.Stepped.{down_to}
use Rattle.regions.specs.Outside.{table_outside}
use Rattle.regions.specs.Region.{ended, region_step}
use Rattle.regions.proofs.Regions.{page-reached, step-outside, step-done, step-page, step_down}
use Rattle.regions.proofs.walk.table_step.Goals.{After-entry_step}
use Rattle.regions.proofs.walk.table_step.Goals as goal

pub returns-then-table_outside-clause-onward : goal.returns-then-table_outside-clause-onward
returns-then-table_outside-clause-onward c =
    let a = c.args in
    let above : a.at.level - 1 + 2 ≡ a.at.level + 1 = omega (arith, a.at.walkable.0) in
    ap done (c.fault_region.ensures false)
    ∙ rw above at
    (step-outside a.registers (memory_of a.memory.now) (table_outside a.memory.now.windows.now) a.address (a.at.level - 1) a.at.table a.at.rights
    (sym c.table_outside.ensures ∙ c.if-table_outside.true))

pub page_region-requires : goal.page_region-requires
page_region-requires c =
    let a = c.args in
    (page-reached a.registers a.address (memory_of a.memory.now) (a.at.level - 1) a.at.table a.at.rights
    (sym (ap (λ k. step_of (Ok k)) c.in-Page.is) ∙ c.in-Ok.ensures.result_value)).0

inside : (c : After-entry_step) → table_outside c.args.memory.now.windows.now c.args.at.table ≡ false
inside c = sym c.table_outside.ensures ∙ c.if-table_outside.false

-- a level that ends the walk
ends : (c : After-entry_step) {k : Completion}
    → done k
    ≡ entry_over c.args.registers c.args.address false (memory_of c.args.memory.now) (c.args.at.level - 1) c.args.at.table c.args.at.rights
    → done (ended c.args.at.level c.args.at.rights k)
    ≡ region_step c.args.registers (memory_of c.args.memory.now) (table_outside c.args.memory.now.windows.now) c.args.address (c.args.at.level - 1)
    c.args.at.table c.args.at.rights
ends c told =
    let a = c.args in
    let same : a.at.level - 1 + 1 ≡ a.at.level = omega (arith, a.at.walkable.0) in
    rw same at
    (step-done a.registers (memory_of a.memory.now) (table_outside a.memory.now.windows.now) a.address (a.at.level - 1) a.at.table a.at.rights (inside c)
    told)

pub returns-in-Page-clause-onward : goal.returns-in-Page-clause-onward
returns-in-Page-clause-onward c =
    let a = c.args in
    step-page a.registers (memory_of a.memory.now) (table_outside a.memory.now.windows.now) a.address (a.at.level - 1) a.at.table a.at.rights
    (inside (goal.at.returns-in-Page-clause-onward c).After-entry_step) (sym (ap (λ k. step_of (Ok k)) c.in-Page.is) ∙ c.in-Ok.ensures.result_value)
    (c.page_region.ensures a.at.rights)

pub returns-in-Empty-clause-onward : goal.returns-in-Empty-clause-onward
returns-in-Empty-clause-onward c =
    ap done (c.empty_region.ensures c.args.at.rights)
    ∙ ends (goal.at.returns-in-Empty-clause-onward c).After-entry_step (sym (ap (λ k. step_of (Ok k)) c.in-Empty.is) ∙ c.in-Ok.ensures.result_value)

pub returns-in-Err-clause-onward : goal.returns-in-Err-clause-onward
returns-in-Err-clause-onward c =
    ap done (c.fault_region-in-Err.ensures false)
    ∙ ends (goal.at.returns-in-Err-clause-onward c).After-entry_step (sym (ap step_of c.in-Err.is) ∙ c.entry_step.ensures.result_value)

pub invariant_of-result : goal.invariant_of-result
invariant_of-result c =
    let a = c.args in
    let told = sym (ap (λ k. step_of (Ok k)) c.in-Down.is) ∙ c.in-Ok.ensures.result_value in
    let to = down_to a.registers a.address false (memory_of a.memory.now) (a.at.level - 1) a.at.table a.at.rights told in
    record { walkable = (to.1, omega (arith, a.at.walkable.1), to.0) }

pub returns-in-Down-clause-onward : goal.returns-in-Down-clause-onward
returns-in-Down-clause-onward c =
    let a = c.args in
    step_down a.registers (memory_of a.memory.now) (table_outside a.memory.now.windows.now) a.address (a.at.level - 1) a.at.table a.at.rights
    (inside (goal.at.returns-in-Down-clause-onward c).After-entry_step) (sym (ap (λ k. step_of (Ok k)) c.in-Down.is) ∙ c.in-Ok.ensures.result_value)
