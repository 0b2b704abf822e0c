-- The recorder's total, over any run of calls: counted from the calls' answers and from the buffer, and stored nowhere.
use Rattle.std.specs.Prelude.{ℕ, ◌+◌, ◌*◌, ◌≡◌, Bool, false, List, [], ◌∷◌, eqb, length, replicate}
use Rattle.image.specs.Choice.{one-if}
use Rattle.faults.specs.Recorder.{State, After, recording, clearing, clearing_overflow, written, slot_cleared}
use Rattle.faults.specs.Slots.{slots_in, standing_in}

-- a call with its arguments, whatever they are
pub data Call : Type 0 where
  record_fault : (recordable : Bool) (contents : ℕ) → Call
  clear_slot : (slot : ℕ) → Call
  clear_overflow : Call

-- a call on a buffer, whose length gives the slots
unfoldable pub call : Call → State → After
call (record_fault recordable contents) s =
    recording (slots_in s.buffer) s.buffer s.next s.overflow recordable contents
call (clear_slot slot) s = clearing (slots_in s.buffer) s.buffer s.next s.overflow slot
call clear_overflow s = clearing_overflow (slots_in s.buffer) s.buffer s.next s.overflow

-- what a run of calls leaves, each made on what the one before it left
unfoldable pub left : List Call → State → State
left [] s = s
left (c ∷ cs) s = left cs (call c s).state

-- how many calls of a run have an answer
unfoldable pub answered : ℕ → List Call → State → ℕ
answered answer [] s = 0
answered answer (c ∷ cs) s = one-if (eqb (call c s).answer answer) + answered answer cs (call c s).state

unfoldable pub zeroed : (slots : ℕ) → State
zeroed slots = record { buffer = replicate (16 * slots) 0; next = 0; overflow = false }

-- a run's calls are of one length
abbrev pub OneLength : Type 0
OneLength = (calls : List Call) (s : State) → length (left calls s).buffer ≡ length s.buffer

-- from a zeroed buffer of any slot count and a zeroed state, over any calls, records written are records cleared and
-- records still standing
abbrev pub Total : Type 0
Total = (slots : ℕ) (calls : List Call) →
    answered written calls (zeroed slots)
    ≡ answered slot_cleared calls (zeroed slots) + standing_in slots (left calls (zeroed slots)).buffer
