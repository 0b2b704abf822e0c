use Prim.Native.Nat.{ℕ, ◌+◌, ◌*◌}
use mathlib.Core.Path.{◌≡◌, ap, sym, ◌∙◌}
use lib.Dec.{eqb}
use Rattle.image.specs.Bits.{bit}
use Rattle.image.specs.Answers.{number16, fetched16, memory_of}
use Rattle.image.specs.EntryKind.{root_entry}
use Rattle.image.specs.Memory.{found, entry}
use Rattle.image.specs.Place.{entry_at}
use Rattle.registers.specs.Source.{bus_of}
use Rattle.pasid.specs.Answers.{root_checked}
use Rattle.pasid.specs.Root.{root_check}
use Rattle.scalable.specs.Lookup.{lookup_rules}
use Rattle.scalable.proofs.Fetches.{Tells, no-entry, stops, goes}
use Rattle.scalable.proofs.Tables.{root-aligned}
use Rattle.scalable.proofs.lookup.find_pasid_entry.Goals as goal

pub returns-in_default : goal.returns-in_default
unfolding lookup_rules
returns-in_default c =
    let a = c.args in
    let m = memory_of a.memory.now in
    let at : ℕ = a.registers.base.root_table + 16 * bus_of a.source.id in
    let there : a.registers.base.root_table + 16 * c.bus-bus.result ≡ at = ap (λ (n : ℕ). a.registers.base.root_table + 16 * n) c.bus-bus.ensures in
    let got : fetched16 c.table_entry.result ≡ entry 2 m at = c.table_entry.ensures.result_value ∙ ap (entry 2 m) there in
    let t : Tells _ _ (lookup_rules a.registers a.pasid a.source.id) m = no-entry root_entry at _ (root_check a.registers.base.haw (bit a.source.id 7)) _ _ m (sym (ap fetched16 c.in_default.is) ∙ got) (ap entry_at there) in
    record {
      result_value = t.0;
      result_value_2 = t.1;
    }

pub context_in-requires : goal.context_in-requires
context_in-requires c =
    let a = c.args in
    (root-aligned a.registers.base.haw (bit a.source.id 7) (number16 c.in-Ok.e) (sym (ap root_checked c.in-Ok-root_check.is) ∙ c.root_check.ensures ∙ ap (λ (n : ℕ). root_check a.registers.base.haw (eqb n 1) (number16 c.in-Ok.e)) c.field-upper.ensures), c.requires.1)

pub returns-in-Err : goal.returns-in-Err
unfolding lookup_rules
returns-in-Err c =
    let a = c.args in
    let m = memory_of a.memory.now in
    let at : ℕ = a.registers.base.root_table + 16 * bus_of a.source.id in
    let there : a.registers.base.root_table + 16 * c.bus-bus.result ≡ at = ap (λ (n : ℕ). a.registers.base.root_table + 16 * n) c.bus-bus.ensures in
    let got : fetched16 c.table_entry.result ≡ entry 2 m at = c.table_entry.ensures.result_value ∙ ap (entry 2 m) there in
    let here : found (number16 c.in-Ok.e) ≡ entry 2 m at = sym (ap fetched16 c.in-Ok.is) ∙ got in
    let t : Tells _ _ (lookup_rules a.registers a.pasid a.source.id) m = stops root_entry at _ (root_check a.registers.base.haw (bit a.source.id 7)) _ _ m here (sym (ap root_checked c.in-Err.is) ∙ c.root_check.ensures ∙ ap (λ (n : ℕ). root_check a.registers.base.haw (eqb n 1) (number16 c.in-Ok.e)) c.field-upper.ensures) (ap entry_at there) in
    record {
      result_value = t.0;
      result_value_2 = t.1;
    }

pub returns-in-Ok-root_check : goal.returns-in-Ok-root_check
unfolding lookup_rules
returns-in-Ok-root_check c =
    let a = c.args in
    let m = memory_of a.memory.now in
    let at : ℕ = a.registers.base.root_table + 16 * bus_of a.source.id in
    let there : a.registers.base.root_table + 16 * c.bus-bus.result ≡ at = ap (λ (n : ℕ). a.registers.base.root_table + 16 * n) c.bus-bus.ensures in
    let got : fetched16 c.table_entry.result ≡ entry 2 m at = c.table_entry.ensures.result_value ∙ ap (entry 2 m) there in
    let here : found (number16 c.in-Ok.e) ≡ entry 2 m at = sym (ap fetched16 c.in-Ok.is) ∙ got in
    let t : Tells _ _ (lookup_rules a.registers a.pasid a.source.id) m = goes root_entry at _ (root_check a.registers.base.haw (bit a.source.id 7)) _ _ m here (sym (ap root_checked c.in-Ok-root_check.is) ∙ c.root_check.ensures ∙ ap (λ (n : ℕ). root_check a.registers.base.haw (eqb n 1) (number16 c.in-Ok.e)) c.field-upper.ensures) c.context_in.ensures.result_value (c.context_in.ensures.result_value_2 (entry_at at)) in
    record {
      result_value = t.0;
      result_value_2 = t.1;
    }
