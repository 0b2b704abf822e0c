use Prim.Native.Nat.{ℕ, ◌+◌, ◌*◌, ◌/◌, ◌%◌}
use mathlib.Core.Path.{◌≡◌, ap, sym, ◌∙◌}
use Rattle.image.specs.Bits.{bits}
use Rattle.image.specs.Answers.{fetched8, memory_of}
use Rattle.image.specs.EntryKind.{pasid_directory_entry}
use Rattle.image.specs.Memory.{found, entry}
use Rattle.image.specs.Place.{entry_at}
use Rattle.pasid.specs.Answers.{directory_checked}
use Rattle.pasid.specs.Directory.{directory_check}
use Rattle.scalable.specs.Lookup.{directory_rules}
use Rattle.scalable.proofs.Fetches.{Tells, no-entry, stops, goes}
use Rattle.scalable.proofs.Tables.{directory-aligned, directory-place}
use Rattle.scalable.proofs.lookup.directory_in.Goals as goal

pub returns-in_default : goal.returns-in_default
unfolding directory_rules
returns-in_default c =
    let a = c.args in
    let m = memory_of a.memory.now in
    let at : ℕ = a.context.directory + 8 * bits a.context.pasid 19 6 in
    let there : a.context.directory + 4096 * (a.context.pasid / 64 / 512) + 8 * (a.context.pasid / 64 % 512) ≡ at = directory-place a.context.directory a.context.pasid c.requires.2 in
    let got : fetched8 c.table_entry.result ≡ entry 1 m at = c.table_entry.ensures.result_value ∙ ap (entry 1 m) there in
    let t : Tells _ _ (directory_rules a.registers a.context) m = no-entry pasid_directory_entry at _ (directory_check a.registers.base.haw a.context.fpd) _ _ m (sym (ap fetched8 c.in_default.is) ∙ got) (ap entry_at there) in
    record {
      result_value = t.0;
      result_value_2 = t.1;
    }

pub table_in-requires : goal.table_in-requires
table_in-requires c =
    let a = c.args in
    directory-aligned a.registers.base.haw a.context.fpd c.in-Ok.e (sym (ap directory_checked c.in-Ok-directory_check.is) ∙ c.directory_check.ensures)

pub returns-in-Err : goal.returns-in-Err
unfolding directory_rules
returns-in-Err c =
    let a = c.args in
    let m = memory_of a.memory.now in
    let at : ℕ = a.context.directory + 8 * bits a.context.pasid 19 6 in
    let there : a.context.directory + 4096 * (a.context.pasid / 64 / 512) + 8 * (a.context.pasid / 64 % 512) ≡ at = directory-place a.context.directory a.context.pasid c.requires.2 in
    let got : fetched8 c.table_entry.result ≡ entry 1 m at = c.table_entry.ensures.result_value ∙ ap (entry 1 m) there in
    let here : found c.in-Ok.e ≡ entry 1 m at = sym (ap fetched8 c.in-Ok.is) ∙ got in
    let t : Tells _ _ (directory_rules a.registers a.context) m = stops pasid_directory_entry at _ (directory_check a.registers.base.haw a.context.fpd) _ _ m here (sym (ap directory_checked c.in-Err.is) ∙ c.directory_check.ensures) (ap entry_at there) in
    record {
      result_value = rw c.bit.ensures t.0;
      result_value_2 = t.1;
    }

pub returns-in-Ok-directory_check : goal.returns-in-Ok-directory_check
unfolding directory_rules
returns-in-Ok-directory_check c =
    let a = c.args in
    let m = memory_of a.memory.now in
    let at : ℕ = a.context.directory + 8 * bits a.context.pasid 19 6 in
    let there : a.context.directory + 4096 * (a.context.pasid / 64 / 512) + 8 * (a.context.pasid / 64 % 512) ≡ at = directory-place a.context.directory a.context.pasid c.requires.2 in
    let got : fetched8 c.table_entry.result ≡ entry 1 m at = c.table_entry.ensures.result_value ∙ ap (entry 1 m) there in
    let here : found c.in-Ok.e ≡ entry 1 m at = sym (ap fetched8 c.in-Ok.is) ∙ got in
    let t : Tells _ _ (directory_rules a.registers a.context) m = goes pasid_directory_entry at _ (directory_check a.registers.base.haw a.context.fpd) _ _ m here (sym (ap directory_checked c.in-Ok-directory_check.is) ∙ c.directory_check.ensures) c.table_in.ensures.result_value (c.table_in.ensures.result_value_2 (entry_at at)) in
    record {
      result_value = t.0;
      result_value_2 = t.1;
    }
