-- A run of calls, worked out: two faults, a clear that finds the first, one that finds nothing, and one that is refused.
use Prim.Native.Nat.{ℕ, ◌+◌, ◌^◌}
use mathlib.Core.Path.{◌≡◌, refl}
use mathlib.Core.Bool.{true}
use mathlib.Core.List.{List, [], ◌∷◌}
use Rattle.image.specs.Bits.{bits}
use Rattle.image.specs.Bytes.{little_endian, bytes_of}
use Rattle.faults.specs.Recorder.{State, recording, clearing, refused, written, slot_clear, slot_cleared}
use Rattle.faults.specs.Slots.{slots_of, record_at, with_record, standing, standing_in}
use Rattle.faults.specs.Total.{Call, record_fault, clear_slot, call, left, answered, zeroed}

abbrev calls : List Call
calls = record_fault true 5 ∷ record_fault true 6 ∷ clear_slot 0 ∷ clear_slot 0 ∷ clear_slot 8 ∷ []

abbrev count : ℕ → ℕ
count answer = answered answer calls (zeroed 8)

abbrev end : State
end = left calls (zeroed 8)

pub worked-out : (count written ≡ 2)
    × (count slot_cleared ≡ 1)
    × (count slot_clear ≡ 1)
    × (count refused ≡ 1)
    × (standing_in 8 end.buffer ≡ 1)
    × (record_at end.buffer 0 ≡ 5)
    × (record_at end.buffer 1 ≡ 6 + 2 ^ 127)
    × (end.next ≡ 2)
unfolding slots_of answered left call zeroed recording clearing standing_in standing record_at with_record little_endian bytes_of bits
worked-out = (refl, refl, refl, refl, refl, refl, refl, refl)
