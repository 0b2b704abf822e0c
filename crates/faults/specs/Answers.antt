-- What the code's faults and the recorder's answers say, in document 01's numbers.
use Rattle.std.specs.Prelude.{ℕ, ◌+◌, ◌*◌, ◌^◌, Bool, List, [], ◌∷◌}
use Rattle.std.specs.Prelude.{if◌then◌else◌}
use Rattle.image.specs.Bytes.{spell}
use Rattle.faults.specs.declared.fault.Fault.{Fault}
use Rattle.faults.specs.Reason.{number_of}
use Rattle.faults.specs.Record.{FaultAnswer}
use Rattle.faults.specs.declared.recorder.Recorder.{Recorder}
use Rattle.faults.specs.declared.recorder.RecorderAnswer.{RecorderAnswer}
use Rattle.faults.specs.declared.recorder.RecorderAnswer.TheVariants as said
use Rattle.faults.specs.Recorder.{
  After,
  leaves,
  refused,
  not_recordable,
  dropped,
  overflowed,
  written,
  slot_clear,
  slot_cleared,
  overflow_clear,
  overflow_cleared,
}

abbrev pub fault_of : Fault → FaultAnswer
fault_of f =
    record {
      reason = number_of f.reason;
      recordable = f.recordable;
      contents = spell (f.low ∷ f.high ∷ []);
    }

-- bits 127:64 of a record, as a word
abbrev pub high_word : ℕ → ℕ → Bool → ℕ
high_word source reason read = source + reason * 2 ^ 32 + (if read then 2 ^ 62 else 0) + 2 ^ 63

abbrev pub answer_of : RecorderAnswer → ℕ
answer_of said.Refused = refused
answer_of said.NotRecordable = not_recordable
answer_of said.Dropped = dropped
answer_of said.Overflowed = overflowed
answer_of said.Written = written
answer_of said.SlotClear = slot_clear
answer_of said.SlotCleared = slot_cleared
answer_of said.OverflowClear = overflow_clear
answer_of said.OverflowCleared = overflow_cleared

-- a call's answer, with the recorder and the buffer that it leaves
abbrev pub left_by : RecorderAnswer → Recorder → List ℕ → After
left_by answer recorder buffer = leaves (answer_of answer) buffer recorder.next recorder.overflow
