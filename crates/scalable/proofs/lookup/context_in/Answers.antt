use Prim.Native.Nat.{ℕ, ◌+◌, ◌*◌, ◌%◌}
use mathlib.Core.Path.{◌≡◌, ap, sym, ◌∙◌}
use Rattle.image.specs.Bits.{bits}
use Rattle.image.specs.Answers.{number64, fetched64, memory_of}
use Rattle.image.specs.EntryKind.{scalable_context_entry}
use Rattle.image.specs.Memory.{found, entry}
use Rattle.image.specs.Place.{entry_at}
use Rattle.pasid.specs.Answers.{context_checked}
use Rattle.pasid.specs.Context.{context_check}
use Rattle.scalable.specs.Lookup.{context_rules}
use Rattle.scalable.proofs.Fetches.{Tells, no-entry, stops, goes}
use Rattle.scalable.proofs.Tables.{usable, context-place}
use Rattle.scalable.proofs.lookup.context_in.Goals as goal

pub returns-in_default : goal.returns-in_default
unfolding context_rules
returns-in_default c =
    let a = c.args in
    let m = memory_of a.memory.now in
    let at : ℕ = a.table + 32 * bits a.source.id 6 0 in
    let there : a.table + 32 * (a.source.id % 128) ≡ at = context-place a.table a.source.id in
    let got : fetched64 c.table_entry32.result ≡ entry 4 m at = c.table_entry32.ensures.result_value ∙ ap (entry 4 m) there in
    let t : Tells _ _ (context_rules a.registers a.pasid a.source.id a.table) m = no-entry scalable_context_entry at _ (context_check a.registers.base.haw a.pasid) _ _ m (sym (ap fetched64 c.in_default.is) ∙ got) (ap entry_at there) in
    record {
      result_value = t.0;
      result_value_2 = t.1;
    }

pub directory_in-requires : goal.directory_in-requires
directory_in-requires c =
    let a = c.args in
    usable a.registers.base.haw a.pasid (number64 c.in-Ok.e) c.requires.1 (sym (ap context_checked c.in-Ok-context_check.is) ∙ c.context_check.ensures)

pub returns-in-Err : goal.returns-in-Err
unfolding context_rules
returns-in-Err c =
    let a = c.args in
    let m = memory_of a.memory.now in
    let at : ℕ = a.table + 32 * bits a.source.id 6 0 in
    let there : a.table + 32 * (a.source.id % 128) ≡ at = context-place a.table a.source.id in
    let got : fetched64 c.table_entry32.result ≡ entry 4 m at = c.table_entry32.ensures.result_value ∙ ap (entry 4 m) there in
    let here : found (number64 c.in-Ok.e) ≡ entry 4 m at = sym (ap fetched64 c.in-Ok.is) ∙ got in
    let t : Tells _ _ (context_rules a.registers a.pasid a.source.id a.table) m = stops scalable_context_entry at _ (context_check a.registers.base.haw a.pasid) _ _ m here (sym (ap context_checked c.in-Err.is) ∙ c.context_check.ensures) (ap entry_at there) in
    record {
      result_value = rw c.bit.ensures t.0;
      result_value_2 = t.1;
    }

pub returns-in-Ok-context_check : goal.returns-in-Ok-context_check
unfolding context_rules
returns-in-Ok-context_check c =
    let a = c.args in
    let m = memory_of a.memory.now in
    let at : ℕ = a.table + 32 * bits a.source.id 6 0 in
    let there : a.table + 32 * (a.source.id % 128) ≡ at = context-place a.table a.source.id in
    let got : fetched64 c.table_entry32.result ≡ entry 4 m at = c.table_entry32.ensures.result_value ∙ ap (entry 4 m) there in
    let here : found (number64 c.in-Ok.e) ≡ entry 4 m at = sym (ap fetched64 c.in-Ok.is) ∙ got in
    let t : Tells _ _ (context_rules a.registers a.pasid a.source.id a.table) m = goes scalable_context_entry at _ (context_check a.registers.base.haw a.pasid) _ _ m here (sym (ap context_checked c.in-Ok-context_check.is) ∙ c.context_check.ensures) c.directory_in.ensures.result_value (c.directory_in.ensures.result_value_2 (entry_at at)) in
    record {
      result_value = t.0;
      result_value_2 = t.1;
    }
