-- The record buffer: slots of 16 bytes, each holding a record as one number of 128 bits.
use Rattle.std.specs.Prelude.{ℕ, zero, suc, ◌+◌, ◌*◌, ◌%◌, ◌^◌, ◌≤◌, Bool, List, ◌++◌, ◌≡◌, eqb, length, take, drop}
use Rattle.image.specs.Bits.{bit}
use Rattle.image.specs.Bytes.{little_endian, bytes_of}
use Rattle.std.specs.Prelude.{if◌then◌else◌}
use Rattle.image.specs.Choice.{one-if}

-- how many slots a length gives: any power of two from 8 to 256, and none for any other length
unfoldable pub slots_of : (len : ℕ) → ℕ
slots_of len =
    if eqb len (16 * 8) then 8 else
    if eqb len (16 * 16) then 16 else
    if eqb len (16 * 32) then 32 else
    if eqb len (16 * 64) then 64 else
    if eqb len (16 * 128) then 128 else
    if eqb len (16 * 256) then 256 else
    0

abbrev pub slots_in : (buffer : List ℕ) → ℕ
slots_in buffer = slots_of (length buffer)

-- that these are the powers of two from 8 to 256, and no other length has a slot
abbrev pub SlotCounts : Type 0
SlotCounts =
    ((k : ℕ) → 3 ≤ k → k ≤ 8 → slots_of (16 * 2 ^ k) ≡ 2 ^ k)
    × ((len : ℕ) → ((k : ℕ) → 3 ≤ k → k ≤ 8 → len ≡ 16 * 2 ^ k → ⊥) → slots_of len ≡ 0)

unfoldable pub record_at : List ℕ → ℕ → ℕ
record_at buffer slot = little_endian (take 16 (drop (16 * slot) buffer))

-- the buffer with a record in a slot, and all else as it was
unfoldable pub with_record : List ℕ → ℕ → ℕ → List ℕ
with_record buffer slot contents = take (16 * slot) buffer ++ bytes_of 16 contents ++ drop (16 * slot + 16) buffer

-- a record stands in a slot while its bit 127 is set
unfoldable pub standing : List ℕ → ℕ → Bool
standing buffer slot = bit (record_at buffer slot) 127

abbrev pub clear127 : ℕ → ℕ
clear127 contents = contents % 2 ^ 127

abbrev pub set127 : ℕ → ℕ
set127 contents = contents % 2 ^ 127 + 2 ^ 127

-- how many of the first slots have a record standing
unfoldable pub standing_in : ℕ → List ℕ → ℕ
standing_in zero buffer = 0
standing_in (suc n) buffer = standing_in n buffer + one-if (standing buffer n)
