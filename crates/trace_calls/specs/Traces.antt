-- The bytes that the C interface answers, and the entries of a trace.
use Rattle.std.specs.Prelude.{ℕ, List, ◌≡◌}
use Rattle.registers.specs.declared.Registers.{Registers}
use Rattle.dma.specs.Requests.{memory_answer, memory_answer_place}
use Rattle.dma.specs.declared.MemoryRequest.{MemoryRequest}
use Rattle.translation.specs.Requests.{translation_answer, translation_answer_place}
use Rattle.translation.specs.declared.TranslationRequest.{TranslationRequest}
use Rattle.interrupts.specs.Interrupts.{interrupt_answer, interrupt_answer_place}
use Rattle.interrupts.specs.declared.InterruptRequest.{InterruptRequest}
use Rattle.traced.specs.Entry.{Fits}
use Rattle.answered.specs.Answered.{kind_of}
use Rattle.answered.specs.Claims.{memory_entry, translation_entry, interrupt_entry}
use Rattle.packing.specs.Answer.{memory_bytes, interrupt_bytes}
use Rattle.packing.specs.Translations.{translation_bytes}
use Rattle.trace_calls.specs.Calls.{unanswered}
use Rattle.answered.specs.Packed.{packed_in}

-- What is appended of a request with the bytes that its call answered is the entry of the request with its answer, each field of which fits
-- its bytes, as it does in the code's types. Proved in proofs/TracedAnswers.antt.
pub record AnswersTraced : Type 0 where
  pub memory : (registers : Registers) (windows bytes : List ℕ) (q : MemoryRequest) → Fits (memory_entry registers windows bytes q)
      → packed_in (unanswered (kind_of q.write) q.source.id q.address 0)
      (memory_bytes (memory_answer registers q windows bytes) (memory_answer_place registers q windows bytes))
      ≡ memory_entry registers windows bytes q
  pub translations : (registers : Registers) (windows bytes : List ℕ) (q : TranslationRequest) → Fits (translation_entry registers windows bytes q)
      → packed_in (unanswered 4 q.source.id q.address 0)
      (translation_bytes (translation_answer registers q windows bytes) (translation_answer_place registers q windows bytes))
      ≡ translation_entry registers windows bytes q
  pub interrupts : (registers : Registers) (windows bytes : List ℕ) (q : InterruptRequest) → Fits (interrupt_entry registers windows bytes q)
      → packed_in (unanswered 3 q.source.id q.address q.«data»)
      (interrupt_bytes (interrupt_answer registers q windows bytes) (interrupt_answer_place registers q windows bytes))
      ≡ interrupt_entry registers windows bytes q
