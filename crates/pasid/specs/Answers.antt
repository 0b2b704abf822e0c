-- What the code answers, in VT-d's numbers.
use Rattle.std.specs.Prelude.{ℕ, [], ◌∷◌, Result, Ok, Err}
use Rattle.image.specs.Check.{Check, stop, go}
use Rattle.image.specs.Bytes.{spell}
use Rattle.image.specs.Place.{Place, entry_at}
use Rattle.faults.specs.Record.{FaultAnswer}
use Rattle.faults.specs.declared.stop.Stop.{Stop}
use Rattle.pasid.specs.Reason.{number_of}
use Rattle.pasid.specs.declared.reason.ScalableReason.{ScalableReason}
use Rattle.pasid.specs.declared.context.ScalableContext.{ScalableContext}
use Rattle.pasid.specs.declared.directory.PasidTable.{PasidTable}
use Rattle.pasid.specs.declared.table.PasidEntry.{PasidEntry}
use Rattle.pasid.specs.declared.fault.ScalableFault.{ScalableFault}

abbrev pub root_checked : Result ℕ ScalableReason → Check ℕ
root_checked (Err reason) = stop (number_of reason)
root_checked (Ok table) = go table

abbrev pub context_checked : Result ScalableContext ScalableReason → Check ScalableContext
context_checked (Err reason) = stop (number_of reason)
context_checked (Ok c) = go c

abbrev pub directory_checked : Result PasidTable ScalableReason → Check PasidTable
directory_checked (Err reason) = stop (number_of reason)
directory_checked (Ok table) = go table

abbrev pub table_checked : Result PasidEntry ScalableReason → Check PasidEntry
table_checked (Err reason) = stop (number_of reason)
table_checked (Ok entry) = go entry

-- the entry that a stop names; where there is none, the place handed in
abbrev pub stop_place : {A : Type 0} → Result A (Stop ScalableReason) → Place → Place
stop_place (Ok x) place = place
stop_place (Err s) place = entry_at s.at

abbrev pub fault_of : ScalableFault → FaultAnswer
fault_of f =
    record {
      reason = number_of f.reason;
      recordable = f.recordable;
      contents = spell (f.low ∷ f.high ∷ []);
    }
