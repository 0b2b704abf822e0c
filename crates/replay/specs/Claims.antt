-- What holds of every replay.
use Rattle.std.specs.Prelude.{ℕ, ◌*◌, ◌^◌, ◌≤◌, true, List, [], ◌∷◌, ◌++◌, ◌≡◌, length}
use Rattle.registers.specs.declared.Registers.{Registers}
use Rattle.dma.specs.Requests.{memory_answer, memory_answer_place}
use Rattle.dma.specs.declared.MemoryRequest.{MemoryRequest}
use Rattle.translation.specs.Requests.{translation_answer, translation_answer_place}
use Rattle.translation.specs.declared.TranslationRequest.{TranslationRequest}
use Rattle.interrupts.specs.Interrupts.{interrupt_answer, interrupt_answer_place}
use Rattle.interrupts.specs.Post.{interrupt_written}
use Rattle.interrupts.specs.declared.InterruptRequest.{InterruptRequest}
use Rattle.traced.specs.Entry.{Fits}
use Rattle.traced.specs.declared.Traced.{Traced}
use Rattle.trace.specs.Told.{Told, told}
use Rattle.trace.specs.Written.{trace_of}
use Rattle.answered.specs.Claims.{memory_entry, translation_entry, interrupt_entry}
use Rattle.replay.specs.Again.{again, same}
use Rattle.replay.specs.Replayed.{replayed, left_after}

-- What is named of some entries doesn't depend on those before them but by the image that these leave, nor on those behind.
abbrev pub ReplayedInOrder : Type 0
ReplayedInOrder = (registers : Registers) (windows image : List ℕ) (front rest : List Told)
    → replayed registers windows image (front ++ rest)
    ≡ replayed registers windows image front ++ replayed registers windows (left_after registers windows image front) rest

-- An entry that the unit made, whatever the registers and the memory then, isn't named exactly where the answer now is the answer then,
-- the entry concerned included.
pub record NamedExactly : Type 0 where
  pub memory : (then now : Registers) (windows bytes windows' bytes' : List ℕ) (q : MemoryRequest)
      → let e = memory_entry then windows bytes q in
      let Alike =
      (memory_answer now q windows' bytes' ≡ memory_answer then q windows bytes)
      × (memory_answer_place now q windows' bytes' ≡ memory_answer_place then q windows bytes) in
      (same e (again now windows' bytes' e) ≡ true → Alike) × (Alike → same e (again now windows' bytes' e) ≡ true)
  pub translations : (then now : Registers) (windows bytes windows' bytes' : List ℕ) (q : TranslationRequest)
      → let e = translation_entry then windows bytes q in
      let Alike =
      (translation_answer now q windows' bytes' ≡ translation_answer then q windows bytes)
      × (translation_answer_place now q windows' bytes' ≡ translation_answer_place then q windows bytes) in
      (same e (again now windows' bytes' e) ≡ true → Alike) × (Alike → same e (again now windows' bytes' e) ≡ true)
  pub interrupts : (then now : Registers) (windows bytes windows' bytes' : List ℕ) (q : InterruptRequest)
      → let e = interrupt_entry then windows bytes q in
      let Alike =
      (interrupt_answer now q windows' bytes' ≡ interrupt_answer then q windows bytes)
      × (interrupt_answer_place now q windows' bytes' ≡ interrupt_answer_place then q windows bytes) in
      (same e (again now windows' bytes' e) ≡ true → Alike) × (Alike → same e (again now windows' bytes' e) ≡ true)

-- a device's request, of any kind
pub data Request : Type 0 where
  memory : MemoryRequest → Request
  translation : TranslationRequest → Request
  interrupt : InterruptRequest → Request

module _ (registers : Registers) (windows : List ℕ) where
  abbrev pub traced_of : (image : List ℕ) → Request → Traced
  traced_of image (memory q) = memory_entry registers windows image q
  traced_of image (translation q) = translation_entry registers windows image q
  traced_of image (interrupt q) = interrupt_entry registers windows image q

  abbrev pub image_after : (image : List ℕ) → Request → List ℕ
  image_after image (memory q) = image
  image_after image (translation q) = image
  image_after image (interrupt q) = interrupt_written windows (interrupt_answer registers q windows image) image

  -- the entries of requests asked one behind the other, posts made
  unfoldable pub recorded : (image : List ℕ) → List Request → List Traced
  recorded image [] = []
  recorded image (q ∷ qs) = traced_of image q ∷ recorded (image_after image q) qs

-- each field fits its bytes, as it does in the code's types
unfoldable pub AllFit : List Traced → Type 0
AllFit [] = Unit {0}
AllFit (e ∷ es) = Fits e × AllFit es

-- of the trace of the unit's own answers nothing is named, over the memory that they were given over
abbrev pub NoneOfItsOwn : Type 0
NoneOfItsOwn = (registers : Registers) (windows image : List ℕ) (qs : List Request)
    → AllFit (recorded registers windows image qs)
    → length qs ≤ 15 * 2 ^ 48
    → replayed registers windows image (told (trace_of (recorded registers windows image qs))) ≡ []
