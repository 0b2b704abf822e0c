-- The recorder's calls: what each answers, and what it leaves in the buffers lent to be written. The first line that applies decides.
use Rattle.std.specs.Prelude.{ℕ, Bool, not, ◌||◌, List, [], ◌∷◌, eqb, leb, ltb, length}
use Rattle.std.specs.Prelude.{if◌then◌else◌}
use Rattle.image.specs.Choice.{one-if}
use Rattle.image.specs.Bytes.{spell}
use Rattle.faults.specs.Recorder.{After, refused, out_of_place, recording, clearing, clearing_overflow}
use Rattle.faults.specs.Slots.{slots_in}
use Rattle.packing.specs.Answer.{last_kind}
use Rattle.packing.specs.Buffer.{byte, bytes}
use Rattle.packing.specs.Status.{bad_answer, bad_recorder, no_fault}

-- number 3, checked first by every call: the state isn't 2 bytes, or the records or the next slot are out of place
unfoldable pub unfit : (slots : ℕ) (recorder : List ℕ) → Bool
unfit slots recorder = not (eqb (length recorder) 2) || out_of_place slots (byte recorder 0)

-- overflow is neither 0 nor 1
abbrev pub bad_state : List ℕ → Bool
bad_state recorder = ltb 1 (byte recorder 1)

abbrev pub overflow_in : List ℕ → Bool
overflow_in recorder = eqb (byte recorder 1) 1

abbrev pub state_bytes : (next : ℕ) (overflow : Bool) → List ℕ
state_bytes next overflow = next ∷ one-if overflow ∷ []

-- the answer, with the records that it leaves
abbrev pub with_records : After → ℕ × List ℕ
with_records a = (a.answer, a.state.buffer)

-- the answer, with the recorder's state that it leaves
abbrev pub with_state : After → ℕ × List ℕ
with_state a = (a.answer, state_bytes a.state.next a.state.overflow)

unfoldable pub clear_slot_call : (records recorder : List ℕ) (slot : ℕ) → ℕ × List ℕ
clear_slot_call records recorder slot =
    if unfit (slots_in records) recorder || leb (slots_in records) slot then (refused, records)
    else if bad_state recorder then (bad_recorder, records)
    else with_records (clearing (slots_in records) records (byte recorder 0) (overflow_in recorder) slot)

unfoldable pub clear_overflow_call : (records recorder : List ℕ) → ℕ × List ℕ
clear_overflow_call records recorder =
    if unfit (slots_in records) recorder then (refused, recorder)
    else if bad_state recorder then (bad_recorder, recorder)
    else with_state (clearing_overflow (slots_in records) records (byte recorder 0) (overflow_in recorder))

-- not 32 bytes, or of no kind that a request answers
unfoldable pub malformed_answer : List ℕ → Bool
malformed_answer answer = not (eqb (length answer) 32) || (eqb (byte answer 0) 0 || ltb last_kind (byte answer 0))

-- the record in bytes 23:8, by its two words
abbrev pub record_in : List ℕ → ℕ
record_in answer = spell (bytes answer 15 8 ∷ bytes answer 23 16 ∷ [])

-- the answer, with the records and the state that it leaves
abbrev pub with_both : After → ℕ × List ℕ × List ℕ
with_both a = (a.answer, a.state.buffer, state_bytes a.state.next a.state.overflow)

-- byte 0 of a fault's answer is 1, and byte 2 is 1 where it may be recorded
unfoldable pub record_call : (answer records recorder : List ℕ) → ℕ × List ℕ × List ℕ
record_call answer records recorder =
    if unfit (slots_in records) recorder then (refused, records, recorder)
    else if malformed_answer answer then (bad_answer, records, recorder)
    else if bad_state recorder then (bad_recorder, records, recorder)
    else if not (eqb (byte answer 0) 1) then (no_fault, records, recorder)
    else with_both (recording (slots_in records) records (byte recorder 0) (overflow_in recorder) (eqb (byte answer 2) 1) (record_in answer))
