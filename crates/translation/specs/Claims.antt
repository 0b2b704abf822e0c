-- What holds of translation requests over any memory: locality, and how they agree with untranslated requests. Proved in proofs/.
use Rattle.std.specs.Prelude.{ℕ, ◌+◌, ◌/◌, ◌%◌, ◌<◌, ◌≤◌, Bool, true, false, ◌⊎◌, ◌≡◌, length}
use mathlib.Core.List.{[], Memᴰ}
use Rattle.image.specs.Memory.{Memory}
use Rattle.image.specs.Place.{no_entry}
use Rattle.image.specs.Rules.{run, named, entries_of, SameIn}
use Rattle.image.specs.Unfetched.{EndsUnfetched}
use Rattle.registers.specs.Admission.{taken_up, admission, in_interrupt_range}
use Rattle.registers.specs.declared.Registers.{Registers}
use Rattle.faults.specs.Record.{FaultAnswer}
use Rattle.dma.specs.Isolation.{access_reason}
use Rattle.dma.specs.Lookup.{context, lookup_rules}
use Rattle.dma.specs.Requests.{granted, memory_rules}
use Rattle.dma.specs.declared.context.Context.{Context}
use Rattle.translation.specs.Requests.{
  TranslationOutcome,
  passed,
  translated,
  blocked,
  refused,
  request_rules,
  answer_over,
  translation_place,
}
use Rattle.translation.specs.Rights.{right_of}
use Rattle.translation.specs.declared.Rights.{Rights}
use Rattle.translation.specs.declared.TranslationRequest.{TranslationRequest}

-- 07h, 08h and 09h
abbrev pub access_fault : TranslationOutcome → Bool
access_fault (passed address) = false
access_fault (translated frame size rights) = false
access_fault (blocked f) = access_reason f.reason
access_fault (refused number) = false

-- Demand 3's first claim: over a second memory alike in the words that a request names, the same request under the same registers gets
-- the same answer, the entry concerned among its parts, unless it ended in an access fault.
abbrev pub TranslationLocality : Type 0
TranslationLocality =
    (registers : Registers) (request : TranslationRequest) (m m' : Memory)
    → access_fault (answer_over registers request m) ≡ false
    → SameIn (named (request_rules registers request) m) m m'
    → (answer_over registers request m' ≡ answer_over registers request m)
    × (translation_place registers request m' ≡ translation_place registers request m)

-- never more than nine words are named
abbrev pub TranslationAtMostNine : Type 0
TranslationAtMostNine =
    (registers : Registers) (request : TranslationRequest) (m : Memory)
    → length (named (request_rules registers request) m) ≤ 9

-- none where the request is refused by 1 or 2, or TE is off
abbrev pub TranslationNoneUntaken : Type 0
TranslationNoneUntaken =
    (registers : Registers) (request : TranslationRequest) (m : Memory)
    → (taken_up ≡ admission registers (in_interrupt_range request.address) registers.te → ⊥)
    → named (request_rules registers request) m ≡ []

-- every entry that it reads is at a multiple of 8
abbrev pub TranslationReadsWords : Type 0
TranslationReadsWords =
    (registers : Registers) (request : TranslationRequest) (m : Memory) (at : ℕ)
    → Memᴰ at (entries_of (λ kind. true) (request_rules registers request) m) → at % 8 ≡ 0

-- an access fault means an entry that isn't whole in the memory
abbrev pub TranslationAccessMeansUnfetched : Type 0
TranslationAccessMeansUnfetched =
    (registers : Registers) (request : TranslationRequest) (m : Memory)
    → access_fault (answer_over registers request m) ≡ true
    → EndsUnfetched (request_rules registers request) m

-- a blocked one always has an entry concerned
abbrev pub TranslationAlwaysAnEntry : Type 0
TranslationAlwaysAnEntry =
    (registers : Registers) (request : TranslationRequest) (m : Memory) (f : FaultAnswer)
    → answer_over registers request m ≡ blocked f
    → translation_place registers request m ≡ no_entry → ⊥

-- an address of the page that another one lies in. The empty answer tells no page: it speaks of the request's own address
abbrev pub InPage : (size own address : ℕ) → Type 0
InPage size own address = (address ≡ own) ⊎ ((0 < size) × (address / size ≡ own / size))

-- how untranslated requests of the same source fare at an address: granted the frame plus the offset where the right is there, not
-- granted where it is off
pub record Agrees (registers : Registers) (request : TranslationRequest) (m : Memory) (frame size : ℕ) (rights : Rights) (address : ℕ) (write : Bool) : Type 0 where
  pub with-right : right_of write rights ≡ true
      → run (memory_rules registers (record { source = request.source; address = address; write = write })) m
      ≡ granted (frame + address % size)
  pub without : right_of write rights ≡ false → (host : ℕ)
      → run (memory_rules registers (record { source = request.source; address = address; write = write })) m ≡ granted host
      → ⊥

-- both engines agree on a page that a translation request is answered, at each of its addresses outside FEE00000h to FEEFFFFFh
abbrev pub EnginesAgree : Type 0
EnginesAgree =
    (registers : Registers) (request : TranslationRequest) (m : Memory) (frame size : ℕ) (rights : Rights)
    → answer_over registers request m ≡ translated frame size rights
    → (address : ℕ) (write : Bool)
    → InPage size request.address address
    → in_interrupt_range address ≡ false
    → Agrees registers request m frame size rights address write

-- the context of the request's own source has type 1
pub record OfType1 (registers : Registers) (request : TranslationRequest) (m : Memory) : Type 0 where
  pub own : Context
  pub own-context : run (lookup_rules registers request.source.id) m ≡ context own
  pub type : own.translation_type ≡ 1

-- contexts of no other type translate: 0 and 2 are 0Dh, 3 is 03h
abbrev pub OnlyType1 : Type 0
OnlyType1 =
    (registers : Registers) (request : TranslationRequest) (m : Memory) (frame size : ℕ) (rights : Rights)
    → answer_over registers request m ≡ translated frame size rights
    → OfType1 registers request m
