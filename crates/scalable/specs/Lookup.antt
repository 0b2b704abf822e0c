-- From the root entry to the PASID table entry, as a rules tree (document 003, 3.4.3). Tables are at host addresses.
use Rattle.std.specs.Prelude.{ℕ, ◌+◌, ◌*◌, Bool, false, ◌||◌}
use Rattle.image.specs.Bits.{bits, bit}
use Rattle.image.specs.EntryKind.{root_entry, scalable_context_entry, pasid_directory_entry, pasid_table_entry}
use Rattle.image.specs.Rules.{Rules, answer}
use Rattle.image.specs.Stage.{stage}
use Rattle.registers.specs.Source.{bus_of}
use Rattle.pasid.specs.Context.{context_check}
use Rattle.pasid.specs.Directory.{directory_check}
use Rattle.pasid.specs.Root.{root_check}
use Rattle.pasid.specs.Table.{table_check}
use Rattle.pasid.specs.declared.Pasid.{Pasid}
use Rattle.pasid.specs.declared.ScalableRegisters.{ScalableRegisters}
use Rattle.pasid.specs.declared.context.ScalableContext.{ScalableContext}
use Rattle.pasid.specs.declared.directory.PasidTable.{PasidTable}
use Rattle.pasid.specs.declared.table.PasidEntry.{PasidEntry}

-- what the PASID table entry says; or a fault, with FPD as it was read by then: set in one of the entries before, or in this one
pub data Lookup : Type 0 where
  pasid_entry : PasidEntry → Lookup
  no_pasid_entry : (reason : ℕ) (fpd : Bool) → Lookup

-- table + 64 × PASID bits 5:0
unfoldable pub table_rules : ScalableRegisters → ScalableContext → PasidTable → Rules Lookup
table_rules r c t =
    stage pasid_table_entry (t.address + 64 * bits c.pasid 5 0) (no_pasid_entry 0x58 t.fpd) (table_check r c.privileged t.fpd)
    (λ e reason. no_pasid_entry reason (t.fpd || bit e 1)) (λ p. answer (pasid_entry p))

-- directory + 8 × PASID bits 19:6
unfoldable pub directory_rules : ScalableRegisters → ScalableContext → Rules Lookup
directory_rules r c =
    stage pasid_directory_entry (c.directory + 8 * bits c.pasid 19 6) (no_pasid_entry 0x50 c.fpd) (directory_check r.base.haw c.fpd)
    (λ e reason. no_pasid_entry reason (c.fpd || bit e 1)) (table_rules r c)

-- context table + 32 × bits 6:0 of device and function
unfoldable pub context_rules : ScalableRegisters → Pasid → (source table : ℕ) → Rules Lookup
context_rules r pasid source table =
    stage scalable_context_entry (table + 32 * bits source 6 0) (no_pasid_entry 0x40 false) (context_check r.base.haw pasid)
    (λ e reason. no_pasid_entry reason (bit e 1)) (directory_rules r)

-- root table + 16 × bus; bit 7 of device and function chooses the half
unfoldable pub lookup_rules : ScalableRegisters → Pasid → (source : ℕ) → Rules Lookup
lookup_rules r pasid source =
    stage root_entry (r.base.root_table + 16 * bus_of source) (no_pasid_entry 0x38 false) (root_check r.base.haw (bit source 7))
    (λ e reason. no_pasid_entry reason false) (context_rules r pasid source)
