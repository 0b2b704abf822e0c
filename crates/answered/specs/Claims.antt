-- What holds of the entries of the unit's answers, under any registers and over any lent memory.
use Rattle.std.specs.Prelude.{ℕ, true, List, ◌≡◌}
use Rattle.registers.specs.declared.Registers.{Registers}
use Rattle.dma.specs.Requests.{memory_answer, memory_answer_place}
use Rattle.dma.specs.declared.MemoryRequest.{MemoryRequest}
use Rattle.translation.specs.Requests.{translation_answer, translation_answer_place}
use Rattle.translation.specs.declared.TranslationRequest.{TranslationRequest}
use Rattle.interrupts.specs.Interrupts.{interrupt_answer, interrupt_answer_place}
use Rattle.interrupts.specs.declared.InterruptRequest.{InterruptRequest}
use Rattle.traced.specs.Well.{well_traced}
use Rattle.traced.specs.declared.Traced.{Traced}
use Rattle.answered.specs.Answered.{memory_traced, translation_traced, interrupt_traced}
use Rattle.answered.specs.Told.{memory_in, memory_outcome_in, translation_in, translation_outcome_in, interrupt_in, interrupt_outcome_in, concerned_in}

module _ (registers : Registers) (windows bytes : List ℕ) where
  -- the entry of a request with its answer
  unfoldable pub memory_entry : MemoryRequest → Traced
  memory_entry q = memory_traced q (memory_answer registers q windows bytes) (memory_answer_place registers q windows bytes)

  unfoldable pub translation_entry : TranslationRequest → Traced
  translation_entry q = translation_traced q (translation_answer registers q windows bytes) (translation_answer_place registers q windows bytes)

  unfoldable pub interrupt_entry : InterruptRequest → Traced
  interrupt_entry q = interrupt_traced q (interrupt_answer registers q windows bytes) (interrupt_answer_place registers q windows bytes)

-- It is laid out well, so that a writer takes it.
pub record EntriesWell : Type 0 where
  pub memory : (registers : Registers) (windows bytes : List ℕ) (q : MemoryRequest) → well_traced (memory_entry registers windows bytes q) ≡ true
  pub translations : (registers : Registers) (windows bytes : List ℕ) (q : TranslationRequest)
      → well_traced (translation_entry registers windows bytes q) ≡ true
  pub interrupts : (registers : Registers) (windows bytes : List ℕ) (q : InterruptRequest)
      → well_traced (interrupt_entry registers windows bytes q) ≡ true

-- It tells the request and all of the answer: the outcome, a fault's record included, and the entry concerned. So one answer has one
-- entry, and no two answers to a request have the same.
pub record EntriesTell : Type 0 where
  pub memory : (registers : Registers) (windows bytes : List ℕ) (q : MemoryRequest)
      → let e = memory_entry registers windows bytes q in
      (memory_in e ≡ q) × (memory_outcome_in e ≡ memory_answer registers q windows bytes) × (concerned_in e ≡ memory_answer_place registers q windows bytes)
  pub translations : (registers : Registers) (windows bytes : List ℕ) (q : TranslationRequest)
      → let e = translation_entry registers windows bytes q in
      (translation_in e ≡ q)
      × (translation_outcome_in e ≡ translation_answer registers q windows bytes)
      × (concerned_in e ≡ translation_answer_place registers q windows bytes)
  pub interrupts : (registers : Registers) (windows bytes : List ℕ) (q : InterruptRequest)
      → let e = interrupt_entry registers windows bytes q in
      (interrupt_in e ≡ q)
      × (interrupt_outcome_in e ≡ interrupt_answer registers q windows bytes)
      × (concerned_in e ≡ interrupt_answer_place registers q windows bytes)
