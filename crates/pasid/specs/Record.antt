-- A fault's answer in scalable mode. Its record is that of legacy mode with the PASID fields.
use Rattle.std.specs.Prelude.{ℕ, ◌+◌, ◌*◌, ◌^◌, Bool, not, ◌&&◌, ◌||◌}
use Rattle.image.specs.Bits.{bits}
use Rattle.std.specs.Prelude.{if◌then◌else◌}
use Rattle.faults.specs.Record.{within, memory_record, FaultAnswer}
use Rattle.pasid.specs.declared.Pasid.{Pasid}

-- FPD of the context, directory or table entry silences all reasons but those of the root entry (38h to 3Ah) and the access faults of
-- these tables (40h, 50h, 58h)
unfoldable pub silenced : (reason : ℕ) → Bool
silenced reason =
    within 0x41 0x47 reason || within 0x51 0x52 reason || within 0x59 0x5D reason || within 0x70 0x86 reason

abbrev pub recordable : (fpd : Bool) (reason : ℕ) → Bool
recordable fpd reason = not (fpd && silenced reason)

-- PASID value in 123:104 and PASID present in 95, as bits of the upper word
unfoldable pub pasid_word : Pasid → ℕ
pasid_word pasid = if pasid.present then bits pasid.value 19 0 * 2 ^ 40 + 2 ^ 31 else 0

-- EXE 94, PRIV 93 and T2 92 are 0; where no PASID is present, so is its value
unfoldable pub scalable_record : (source address reason : ℕ) (read : Bool) → Pasid → ℕ
scalable_record source address reason read pasid = memory_record source address reason read + pasid_word pasid * 2 ^ 64

unfoldable pub scalable_fault : (reason : ℕ) (fpd : Bool) (source address : ℕ) (write : Bool) → Pasid → FaultAnswer
scalable_fault reason fpd source address write pasid =
    record {
      reason = reason;
      recordable = recordable fpd reason;
      contents = scalable_record source address reason (not write) pasid;
    }
