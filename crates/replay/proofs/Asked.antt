-- What is asked again of an entry that the unit made: its own request.
use Prim.Native.Nat.{ℕ}
use mathlib.Core.Bool.{Bool, true, false}
use mathlib.Core.List.{List}
use mathlib.Core.Path.{◌≡◌, refl, ap, ◌∙◌}
use lib.Dec.{eqb}
use Rattle.image.specs.Place.{Place, no_entry, entry_at}
use Rattle.registers.specs.declared.Registers.{Registers}
use Rattle.faults.specs.Record.{FaultAnswer}
use Rattle.dma.specs.Requests as dma
use Rattle.dma.specs.Requests.{memory_answer, memory_answer_place}
use Rattle.dma.specs.declared.MemoryRequest.{MemoryRequest}
use Rattle.translation.specs.Requests as translation
use Rattle.translation.specs.Requests.{translation_answer, translation_answer_place}
use Rattle.translation.specs.declared.TranslationRequest.{TranslationRequest}
use Rattle.interrupts.specs.Descriptor.{silent, notification}
use Rattle.interrupts.specs.Interrupts as interrupts
use Rattle.interrupts.specs.Interrupts.{interrupt_answer, interrupt_answer_place}
use Rattle.interrupts.specs.Post.{interrupt_written}
use Rattle.interrupts.specs.declared.InterruptRequest.{InterruptRequest}
use Rattle.answered.specs.Answered.{kind_of, fault_traced, memory_traced, translation_traced, interrupt_traced}
use Rattle.answered.specs.Claims.{memory_entry, translation_entry, interrupt_entry}
use Rattle.answered.proofs.Entries.{entries-tell}
use Rattle.replay.specs.Again.{again, left_by}

fault-kind : (kind source address message : ℕ) (f : FaultAnswer) (p : Place) → (fault_traced kind source address message f p).kind ≡ kind
fault-kind kind source address message f no_entry = refl
fault-kind kind source address message f (entry_at at) = refl

no-interrupt : (write : Bool) → eqb (kind_of write) 3 ≡ false
no-interrupt true = refl
no-interrupt false = refl

no-translation : (write : Bool) → eqb (kind_of write) 4 ≡ false
no-translation true = refl
no-translation false = refl

module _ (then : Registers) (windows bytes : List ℕ) where
  memory-kind : (q : MemoryRequest) → (memory_entry then windows bytes q).kind ≡ kind_of q.write
  unfolding memory_entry memory_traced
  memory-kind q = by (memory_answer then q windows bytes) (memory_answer_place then q windows bytes)
    where
      by : (o : dma.MemoryOutcome) (p : Place) → (memory_traced q o p).kind ≡ kind_of q.write
      by (dma.granted host) p = refl
      by (dma.blocked f) p = fault-kind (kind_of q.write) q.source.id q.address 0 f p
      by (dma.refused n) p = refl

  translation-kind : (q : TranslationRequest) → (translation_entry then windows bytes q).kind ≡ 4
  unfolding translation_entry translation_traced
  translation-kind q = by (translation_answer then q windows bytes) (translation_answer_place then q windows bytes)
    where
      by : (o : translation.TranslationOutcome) (p : Place) → (translation_traced q o p).kind ≡ 4
      by (translation.passed address) p = refl
      by (translation.translated frame size rights) p = refl
      by (translation.blocked f) p = fault-kind 4 q.source.id q.address 0 f p
      by (translation.refused n) p = refl

  interrupt-kind : (q : InterruptRequest) → (interrupt_entry then windows bytes q).kind ≡ 3
  unfolding interrupt_entry interrupt_traced
  interrupt-kind q = by (interrupt_answer then q windows bytes) (interrupt_answer_place then q windows bytes)
    where
      by : (o : interrupts.InterruptOutcome) (p : Place) → (interrupt_traced q o p).kind ≡ 3
      by interrupts.passed p = refl
      by (interrupts.remapped r) p = refl
      by (interrupts.posted descriptor vector silent) p = refl
      by (interrupts.posted descriptor vector (notification v d)) p = refl
      by (interrupts.blocked f) p = fault-kind 3 q.source.id q.address q.«data» f p
      by (interrupts.refused n) p = refl

  module _ (now : Registers) (windows' bytes' : List ℕ) where
    pub memory-again : (q : MemoryRequest) → again now windows' bytes' (memory_entry then windows bytes q) ≡ memory_entry now windows' bytes' q
    unfolding again
    memory-again q =
        let e = memory_entry then windows bytes q in
        let not-3 : eqb e.kind 3 ≡ false = ap (λ (k : ℕ). eqb k 3) (memory-kind q) ∙ no-interrupt q.write in
        let not-4 : eqb e.kind 4 ≡ false = ap (λ (k : ℕ). eqb k 4) (memory-kind q) ∙ no-translation q.write in
        rw (not-3, not-4) (ap (memory_entry now windows' bytes') (entries-tell.memory then windows bytes q).0)

    pub memory-left : (q : MemoryRequest) → left_by now windows' bytes' (memory_entry then windows bytes q) ≡ bytes'
    unfolding left_by
    memory-left q =
        let e = memory_entry then windows bytes q in
        let not-3 : eqb e.kind 3 ≡ false = ap (λ (k : ℕ). eqb k 3) (memory-kind q) ∙ no-interrupt q.write in
        rw not-3

    pub translation-again : (q : TranslationRequest)
        → again now windows' bytes' (translation_entry then windows bytes q) ≡ translation_entry now windows' bytes' q
    unfolding again
    translation-again q =
        rw (translation-kind q) (ap (translation_entry now windows' bytes') (entries-tell.translations then windows bytes q).0)

    pub translation-left : (q : TranslationRequest) → left_by now windows' bytes' (translation_entry then windows bytes q) ≡ bytes'
    unfolding left_by
    translation-left q = rw (translation-kind q)

    pub interrupt-again : (q : InterruptRequest)
        → again now windows' bytes' (interrupt_entry then windows bytes q) ≡ interrupt_entry now windows' bytes' q
    unfolding again
    interrupt-again q =
        rw (interrupt-kind q) (ap (interrupt_entry now windows' bytes') (entries-tell.interrupts then windows bytes q).0)

    pub interrupt-left : (q : InterruptRequest)
        → left_by now windows' bytes' (interrupt_entry then windows bytes q) ≡ interrupt_written windows' (interrupt_answer now q windows' bytes') bytes'
    unfolding left_by
    interrupt-left q =
        rw (interrupt-kind q)
        (ap (λ (r : InterruptRequest). interrupt_written windows' (interrupt_answer now r windows' bytes') bytes') (entries-tell.interrupts then windows bytes q).0)
