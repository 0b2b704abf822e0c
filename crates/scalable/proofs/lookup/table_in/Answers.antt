use Prim.Native.Nat.{ℕ, ◌+◌, ◌*◌, ◌%◌}
use mathlib.Core.Path.{◌≡◌, refl, ap, sym, ◌∙◌}
use Rattle.image.specs.Bits.{bits}
use Rattle.image.specs.Answers.{number64, fetched64, memory_of}
use Rattle.image.specs.EntryKind.{pasid_table_entry}
use Rattle.image.specs.Memory.{found, entry}
use Rattle.image.specs.Place.{entry_at, last_tried}
use Rattle.image.specs.Rules.{run}
use Rattle.pasid.specs.Answers.{table_checked}
use Rattle.pasid.specs.Table.{table_check}
use Rattle.scalable.specs.Lookup.{table_rules}
use Rattle.scalable.proofs.Fetches.{Tells, no-entry, stops, goes}
use Rattle.scalable.proofs.Tables.{table-place}
use Rattle.scalable.proofs.lookup.table_in.Goals as goal

pub returns-in_default : goal.returns-in_default
unfolding table_rules
returns-in_default c =
    let a = c.args in
    let m = memory_of a.memory.now in
    let at : ℕ = a.table.address + 64 * bits a.context.pasid 5 0 in
    let there : a.table.address + 64 * (a.context.pasid % 64) ≡ at = table-place a.table.address a.context.pasid in
    let got : fetched64 c.entry.result ≡ entry 8 m at = c.entry.ensures.result_value ∙ ap (entry 8 m) there in
    let t : Tells _ _ (table_rules a.registers a.context a.table) m = no-entry pasid_table_entry at _ (table_check a.registers a.context.privileged a.table.fpd) _ _ m (sym (ap fetched64 c.in_default.is) ∙ got) (ap entry_at there) in
    record {
      result_value = t.0;
      result_value_2 = t.1;
    }

pub returns-in-Err : goal.returns-in-Err
unfolding table_rules
returns-in-Err c =
    let a = c.args in
    let m = memory_of a.memory.now in
    let at : ℕ = a.table.address + 64 * bits a.context.pasid 5 0 in
    let there : a.table.address + 64 * (a.context.pasid % 64) ≡ at = table-place a.table.address a.context.pasid in
    let got : fetched64 c.entry.result ≡ entry 8 m at = c.entry.ensures.result_value ∙ ap (entry 8 m) there in
    let here : found (number64 c.in-Ok.e) ≡ entry 8 m at = sym (ap fetched64 c.in-Ok.is) ∙ got in
    let t : Tells _ _ (table_rules a.registers a.context a.table) m = stops pasid_table_entry at _ (table_check a.registers a.context.privileged a.table.fpd) _ _ m here (sym (ap table_checked c.in-Err.is) ∙ c.table_check.ensures) (ap entry_at there) in
    record {
      result_value = rw c.bit.ensures t.0;
      result_value_2 = t.1;
    }

pub returns-in-Ok-table_check : goal.returns-in-Ok-table_check
unfolding table_rules run last_tried
returns-in-Ok-table_check c =
    let a = c.args in
    let m = memory_of a.memory.now in
    let at : ℕ = a.table.address + 64 * bits a.context.pasid 5 0 in
    let there : a.table.address + 64 * (a.context.pasid % 64) ≡ at = table-place a.table.address a.context.pasid in
    let got : fetched64 c.entry.result ≡ entry 8 m at = c.entry.ensures.result_value ∙ ap (entry 8 m) there in
    let here : found (number64 c.in-Ok.e) ≡ entry 8 m at = sym (ap fetched64 c.in-Ok.is) ∙ got in
    let t : Tells _ _ (table_rules a.registers a.context a.table) m = goes pasid_table_entry at _ (table_check a.registers a.context.privileged a.table.fpd) _ _ m here (sym (ap table_checked c.in-Ok-table_check.is) ∙ c.table_check.ensures) refl (ap entry_at there) in
    record {
      result_value = t.0;
      result_value_2 = t.1;
    }
