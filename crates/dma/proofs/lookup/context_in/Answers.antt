use Prim.Native.Nat.{◌+◌, ◌*◌}
use mathlib.Core.Bool.{false}
use mathlib.Core.Path.{◌≡◌, refl, ap, sym, ◌∙◌}
use Rattle.image.specs.Answers.{fetched16, number16}
use Rattle.image.specs.Memory.{entry}
use Rattle.image.specs.Rules.{answer}
use Rattle.image.specs.EntryKind.{context_entry}
use Rattle.image.specs.Answers.{memory_of}
use Rattle.image.proofs.Stages.{unfetched, checked, only}
use Rattle.registers.specs.Source.{devfn_of}
use Rattle.dma.specs.Context.{context_check, fault_processing_disabled}
use Rattle.dma.specs.Lookup.{context, no_context, context_rules}
use Rattle.dma.proofs.lookup.context_in.Goals.{After-table_entry}
use Rattle.dma.proofs.lookup.context_in.Goals as goal

place : (c : After-table_entry)
    → fetched16 c.table_entry.result
    ≡ entry 2 (memory_of c.args.memory.now) (c.args.table + 16 * devfn_of c.args.source.id)
place c =
    let a = c.args in
    rw (← c.devfn-devfn.ensures) c.table_entry.ensures.result_value

pub returns-in_default-clause-result_value : goal.returns-in_default-clause-result_value
unfolding context_rules
returns-in_default-clause-result_value c =
    let a = c.args in
    unfetched context_entry (a.table + 16 * devfn_of a.source.id) (no_context 0x09 false) (context_check a.registers) (λ e reason. no_context reason (fault_processing_disabled e)) (λ c. answer (context c)) (memory_of a.memory.now) (sym (ap fetched16 c.in_default.is) ∙ place (goal.at.returns-in_default-clause-result_value c).After-table_entry)

pub returns-clause-result_value : goal.returns-clause-result_value
unfolding context_rules
returns-clause-result_value c =
    let a = c.args in
    let e = number16 c.in-Ok.e in
    c.context_check.ensures.result_value
    ∙ only (memory_of a.memory.now) (context_check a.registers e) (λ reason. no_context reason (fault_processing_disabled e)) context
    ∙ checked context_entry (a.table + 16 * devfn_of a.source.id) (no_context 0x09 false) (context_check a.registers) (λ e reason. no_context reason (fault_processing_disabled e)) (λ c. answer (context c)) (memory_of a.memory.now) (sym (ap fetched16 c.in-Ok.is) ∙ place (goal.at.returns-clause-result_value c).After-table_entry) refl
