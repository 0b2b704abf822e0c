use Prim.Native.Nat.{ℕ, ◌+◌, ◌*◌}
use mathlib.Core.Bool.{false}
use mathlib.Core.Path.{◌≡◌, ap, sym, ◌∙◌}
use Rattle.std.proofs.lemmas.Result.{err_from_is_err_and}
use Rattle.image.specs.Answers.{fetched16, number16}
use Rattle.image.specs.Memory.{found, entry}
use Rattle.image.specs.Place.{no_entry, entry_at, last_tried}
use Rattle.image.specs.Rules.{answer, run}
use Rattle.image.specs.Check.{on_check}
use Rattle.image.specs.EntryKind.{root_entry}
use Rattle.image.specs.Answers.{memory_of}
use Rattle.image.proofs.Places.{unfetched-at, checked-at}
use Rattle.image.proofs.Stages.{unfetched, checked}
use Rattle.registers.specs.Source.{bus_of}
use Rattle.dma.specs.Lookup.{context, no_context, context_rules, root_rules}
use Rattle.dma.specs.Root.{root_check}
use Rattle.dma.proofs.Lookups.{context-place}
use Rattle.dma.proofs.Stages.{root-aligned}
use Rattle.dma.proofs.lookup.find_context.Goals.{After-table_entry, In-Ok}
use Rattle.dma.proofs.lookup.find_context.Goals as goal

place : (c : After-table_entry)
    → fetched16 c.table_entry.result
    ≡ entry 2 (memory_of c.args.memory.now) (c.args.registers.root_table + 16 * bus_of c.args.source.id)
place c =
    let a = c.args in
    rw (← c.bus-bus.ensures) c.table_entry.ensures.result_value

-- the address by the code's bus
at_place : (c : After-table_entry)
    → entry_at (c.args.registers.root_table + 16 * c.bus-bus.result)
    ≡ entry_at (c.args.registers.root_table + 16 * bus_of c.args.source.id)
at_place c =
    let a = c.args in
    ap (λ (n : ℕ). entry_at (a.registers.root_table + 16 * n)) c.bus-bus.ensures

pub returns-in_default : goal.returns-in_default
unfolding root_rules
returns-in_default c =
    let a = c.args in
    let at = a.registers.root_table + 16 * bus_of a.source.id in
    let next = context_rules a.registers no_context (λ c. answer (context c)) a.source.id in
    let none = sym (ap fetched16 c.in_default.is) ∙ place (goal.at.returns-in_default c).After-table_entry in
    record {
      result_value = unfetched root_entry at (no_context 0x08 false) (root_check a.registers.haw) (λ e reason. no_context reason false) next (memory_of a.memory.now) none;
      result_value_2 = at_place (goal.at.returns-in_default c).After-table_entry ∙ unfetched-at root_entry at (no_context 0x08 false) (root_check a.registers.haw) (λ e reason. no_context reason false) next no_entry (memory_of a.memory.now) none;
    }

found_at : (c : In-Ok)
    → found (number16 c.in-Ok.e)
    ≡ entry 2 (memory_of c.args.memory.now) (c.args.registers.root_table + 16 * bus_of c.args.source.id)
found_at c = let b = c.bus-bus.ensures in sym (ap fetched16 c.in-Ok.is) ∙ rw (← b) c.table_entry.ensures.result_value

pub returns-in_err-table : goal.returns-in_err-table
unfolding root_rules run last_tried
returns-in_err-table c =
    let a = c.args in
    let at = a.registers.root_table + 16 * bus_of a.source.id in
    let m = memory_of a.memory.now in
    let next = context_rules a.registers no_context (λ c. answer (context c)) a.source.id in
    let told = c.in_err-table.ensures in
    let p = err_from_is_err_and c.from_residual.result c.from_residual.ensures.1 in
    let check = ap (λ k. on_check k (λ reason. answer (no_context reason false)) next) told.result_value in
    record {
      result_value = rw (p.1, p.2, told.no_fpd) (checked root_entry at (no_context 0x08 false) (root_check a.registers.haw) (λ e reason. no_context reason false) next m (found_at (goal.at.returns-in_err-table c).In-Ok) check);
      result_value_2 = rw (p.1, p.2) (told.check_names
          ∙ at_place (goal.at.returns-in_err-table c).After-table_entry
          ∙ checked-at root_entry at (no_context 0x08 false) (root_check a.registers.haw) (λ e reason. no_context reason false) next no_entry m (found_at (goal.at.returns-in_err-table c).In-Ok) check);
    }

pub context_in-requires : goal.context_in-requires
context_in-requires c = root-aligned _ _ (sym c.in_ok-table.ensures.result_value)

pub returns : goal.returns
unfolding root_rules
returns c =
    let a = c.args in
    let at = a.registers.root_table + 16 * bus_of a.source.id in
    let m = memory_of a.memory.now in
    let next = context_rules a.registers no_context (λ c. answer (context c)) a.source.id in
    let check = ap (λ k. on_check k (λ reason. answer (no_context reason false)) next) c.in_ok-table.ensures.result_value in
    record {
      result_value = c.context_in.ensures.result_value
          ∙ checked root_entry at (no_context 0x08 false) (root_check a.registers.haw) (λ e reason. no_context reason false) next m (found_at (goal.at.returns c).In-Ok) check;
      result_value_2 = c.context_in.ensures.result_value_2
          ∙ context-place a.registers (entry_at at) m a.source.id _
          ∙ checked-at root_entry at (no_context 0x08 false) (root_check a.registers.haw) (λ e reason. no_context reason false) next no_entry m (found_at (goal.at.returns c).In-Ok) check;
    }
