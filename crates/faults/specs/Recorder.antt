-- Document 01, the recorder, over the number of slots: what each call answers and leaves.
use Rattle.std.specs.Prelude.{ℕ, ◌+◌, ◌%◌, Bool, true, false, not, ◌||◌, List, leb}
use Rattle.std.specs.Prelude.{if◌then◌else◌}
use Rattle.faults.specs.Slots.{record_at, with_record, standing, clear127, set127}

-- the lent buffer, and the small state
pub record State : Type 0 where
  pub buffer : List ℕ
  pub next : ℕ
  pub overflow : Bool

-- what a call answers, by number, and what it leaves
pub record After : Type 0 where
  pub answer : ℕ
  pub state : State

-- 3 is the refusal's own number; the others are the C interface's
abbrev pub refused : ℕ
refused = 0x03

abbrev pub not_recordable : ℕ
not_recordable = 0x11

abbrev pub dropped : ℕ
dropped = 0x12

abbrev pub overflowed : ℕ
overflowed = 0x13

abbrev pub written : ℕ
written = 0x14

abbrev pub slot_clear : ℕ
slot_clear = 0x20

abbrev pub slot_cleared : ℕ
slot_cleared = 0x21

abbrev pub overflow_clear : ℕ
overflow_clear = 0x30

abbrev pub overflow_cleared : ℕ
overflow_cleared = 0x31

abbrev pub leaves : ℕ → List ℕ → ℕ → Bool → After
leaves answer buffer next overflow =
    record { answer = answer; state = record { buffer = buffer; next = next; overflow = overflow } }

-- number 3, checked first by every call: the buffer's length gives no slots, or the next slot is above the last
abbrev pub out_of_place : (slots next : ℕ) → Bool
out_of_place slots next = leb slots next

module _ (slots : ℕ) (buffer : List ℕ) (next : ℕ) (overflow : Bool) where
  -- a fault that is not recordable changes nothing; with overflow set it is dropped; where the next slot's bit 127 is set,
  -- overflow is set and it is dropped; else it is written, with bit 127 set whatever was handed in, and the next slot advances
  unfoldable pub recording : Bool → ℕ → After
  recording recordable contents =
      if out_of_place slots next then leaves refused buffer next overflow
      else if not recordable then leaves not_recordable buffer next overflow
      else if overflow then leaves dropped buffer next overflow
      else if standing buffer next then leaves overflowed buffer next true
      else leaves written (with_record buffer next (set127 contents)) ((next + 1) % slots) overflow

  -- clearing a slot clears its bit 127 only; number 3 too where the slot is above the last
  unfoldable pub clearing : ℕ → After
  clearing slot =
      if out_of_place slots next || leb slots slot then leaves refused buffer next overflow
      else if standing buffer slot
      then leaves slot_cleared (with_record buffer slot (clear127 (record_at buffer slot))) next overflow
      else leaves slot_clear buffer next overflow

  unfoldable pub clearing_overflow : After
  clearing_overflow =
      if out_of_place slots next then leaves refused buffer next overflow
      else if overflow then leaves overflow_cleared buffer next false
      else leaves overflow_clear buffer next overflow
