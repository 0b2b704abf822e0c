-- A fault's answer: its reason, whether it may be recorded, and its record. A record's 16 bytes are one number of 128 bits.
use Rattle.std.specs.Prelude.{ℕ, ◌+◌, ◌*◌, ◌^◌, min, Bool, true, false, not, ◌&&◌, ◌||◌, eqb, leb}
use Rattle.image.specs.Bits.{in_place}
use Rattle.std.specs.Prelude.{if◌then◌else◌}

-- the number lies from low to high, ends included
abbrev pub within : (low high n : ℕ) → Bool
within low high n = leb low n && leb n high

-- FPD silences 02h to 07h, 0Bh to 0Dh (of the context entry) and 22h, 24h, 26h to 28h (of the interrupt entry)
unfoldable pub silenced : (reason : ℕ) → Bool
silenced reason =
    within 0x02 0x07 reason || within 0x0B 0x0D reason || eqb reason 0x22 || eqb reason 0x24 || within 0x26 0x28 reason

-- others are always recordable
abbrev pub recordable : (fpd : Bool) (reason : ℕ) → Bool
recordable fpd reason = not (fpd && silenced reason)

-- source in 79:64, reason in 103:96, bit 126 set for a read, bit 127 set
unfoldable pub from_bit64 : (source reason : ℕ) (read : Bool) → ℕ
from_bit64 source reason read = source * 2 ^ 64 + reason * 2 ^ 96 + (if read then 2 ^ 126 else 0) + 2 ^ 127

-- address 63:12 in place
unfoldable pub memory_record : (source address reason : ℕ) (read : Bool) → ℕ
memory_record source address reason read = in_place address 63 12 + from_bit64 source reason read

-- of a translation request: that of a read, so bit 126 is set, with 01b as AT, the address type, in 125:124
unfoldable pub translation_record : (source address reason : ℕ) → ℕ
translation_record source address reason = memory_record source address reason true + 2 ^ 124

-- the interrupt index: 65,535 if larger; 0 for 20h and 25h
unfoldable pub index_field : (reason index : ℕ) → ℕ
index_field reason index = if eqb reason 0x20 || eqb reason 0x25 then 0 else min index 65535

-- the interrupt index in 63:48
unfoldable pub interrupt_record : (source index reason : ℕ) → ℕ
interrupt_record source index reason = index_field reason index * 2 ^ 48 + from_bit64 source reason false

pub record FaultAnswer : Type 0 where
  -- VT-d's number
  pub reason : ℕ
  pub recordable : Bool
  -- the 16 record bytes, as one number
  pub contents : ℕ

-- a memory request that was blocked
unfoldable pub memory_fault : (reason : ℕ) (fpd : Bool) (source address : ℕ) (write : Bool) → FaultAnswer
memory_fault reason fpd source address write =
    record {
      reason = reason;
      recordable = recordable fpd reason;
      contents = memory_record source address reason (not write);
    }

-- a translation request that was blocked
unfoldable pub translation_fault : (reason : ℕ) (fpd : Bool) (source address : ℕ) → FaultAnswer
translation_fault reason fpd source address =
    record {
      reason = reason;
      recordable = recordable fpd reason;
      contents = translation_record source address reason;
    }

-- an interrupt that was blocked; its index is a whole number
unfoldable pub interrupt_fault : (reason : ℕ) (fpd : Bool) (source index : ℕ) → FaultAnswer
interrupt_fault reason fpd source index =
    record {
      reason = reason;
      recordable = recordable fpd reason;
      contents = interrupt_record source index reason;
    }
