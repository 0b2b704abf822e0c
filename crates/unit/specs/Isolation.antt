-- The customer's demand 3, whole: more memory or more rights never takes back a grant. Each statement speaks of whole requests, from
-- registers to answer, for any registers, any request and any two lent memories with windows that aren't refused, compared by host address,
-- over the definition of named words that the answers come from. The same claims over any memory are those of dma/specs/Isolation.antt,
-- translation/specs/Claims.antt and interrupts/specs/Claims.antt. The proof of all of it is `isolation` in proofs/Demand3.antt.
use Rattle.std.specs.Prelude.{ℕ, ◌≤◌, ◌^◌, false, ◌||◌, List, ◌≡◌, length}
use Rattle.image.specs.Alike.{Extends}
use Rattle.image.specs.Memory.{Memory, of_image}
use Rattle.image.specs.Place.{Place}
use Rattle.image.specs.Rules.{named, run}
use Rattle.image.specs.Windows.{bad_windows, flat}
use Rattle.registers.specs.declared.Registers.{Registers}
use Rattle.dma.specs.Isolation.{answer_over, access_fault, walked_by_any, Apart}
use Rattle.dma.specs.Requests.{MemoryOutcome, granted, memory_rules, memory_answer, memory_answer_place}
use Rattle.dma.specs.declared.MemoryRequest.{MemoryRequest}
use Rattle.translation.specs.Claims as translation
use Rattle.translation.specs.Requests.{TranslationOutcome, request_rules, translation_answer, translation_answer_place}
use Rattle.translation.specs.declared.TranslationRequest.{TranslationRequest}
use Rattle.interrupts.specs.Claims as interrupts
use Rattle.interrupts.specs.Claims.{named_words, AccessFault, bit_at, sets}
use Rattle.interrupts.specs.Interrupts.{InterruptOutcome, interrupt_answer, interrupt_answer_place}
use Rattle.interrupts.specs.Post.{interrupt_written}
use Rattle.interrupts.specs.declared.InterruptRequest.{InterruptRequest}
use Rattle.takes.specs.Take.{take_rules, take_answer}
use Rattle.unit.specs.Lent.{Lent, memory_of, SameWordsAt, SwitchedAt, ShowsAll}

-- what the unit answers over a lent memory, and the entry concerned
abbrev pub memory_over : Registers → MemoryRequest → Lent → MemoryOutcome
memory_over registers request l = memory_answer registers request l.windows l.bytes

abbrev pub memory_place_over : Registers → MemoryRequest → Lent → Place
memory_place_over registers request l = memory_answer_place registers request l.windows l.bytes

abbrev pub translation_over : Registers → TranslationRequest → Lent → TranslationOutcome
translation_over registers request l = translation_answer registers request l.windows l.bytes

abbrev pub translation_place_over : Registers → TranslationRequest → Lent → Place
translation_place_over registers request l = translation_answer_place registers request l.windows l.bytes

abbrev pub interrupt_over : Registers → InterruptRequest → Lent → InterruptOutcome
interrupt_over registers request l = interrupt_answer registers request l.windows l.bytes

abbrev pub interrupt_place_over : Registers → InterruptRequest → Lent → Place
interrupt_place_over registers request l = interrupt_answer_place registers request l.windows l.bytes

-- the run that an interrupt leaves
abbrev pub left_by : Registers → InterruptRequest → Lent → List ℕ
left_by registers request l = interrupt_written l.windows (interrupt_over registers request l) l.bytes

abbrev pub MemoryAlike : Type 0
MemoryAlike =
    (registers : Registers) (request : MemoryRequest) (l l' : Lent)
    → access_fault (memory_over registers request l) ≡ false
    → SameWordsAt l l' (named (memory_rules registers request) (memory_of l))
    → (memory_over registers request l' ≡ memory_over registers request l)
    × (memory_place_over registers request l' ≡ memory_place_over registers request l)

abbrev pub TranslationsAlike : Type 0
TranslationsAlike =
    (registers : Registers) (request : TranslationRequest) (l l' : Lent)
    → translation.access_fault (translation_over registers request l) ≡ false
    → SameWordsAt l l' (named (request_rules registers request) (memory_of l))
    → (translation_over registers request l' ≡ translation_over registers request l)
    × (translation_place_over registers request l' ≡ translation_place_over registers request l)

abbrev pub InterruptsAlike : Type 0
InterruptsAlike =
    (registers : Registers) (request : InterruptRequest) (l l' : Lent)
    → (AccessFault (interrupt_over registers request l) → ⊥)
    → SameWordsAt l l' (named_words registers request (memory_of l))
    → (interrupt_over registers request l' ≡ interrupt_over registers request l)
    × (interrupt_place_over registers request l' ≡ interrupt_place_over registers request l)
    × ((n : ℕ) → bit_at l'.windows (left_by registers request l') n
    ≡ (bit_at l'.windows l'.bytes n || sets (interrupt_over registers request l) n))

abbrev pub RightsKeep : Type 0
RightsKeep =
    (registers : Registers) (walkers : List MemoryRequest) (request : MemoryRequest) (l l' : Lent)
    → Apart registers walkers request (memory_of l)
    → SwitchedAt (λ before after. before ≤ after) (walked_by_any registers walkers (memory_of l)) l l'
    → (address : ℕ) → memory_over registers request l ≡ granted address
    → memory_over registers request l' ≡ granted address

abbrev pub RightsDeny : Type 0
RightsDeny =
    (registers : Registers) (walkers : List MemoryRequest) (request : MemoryRequest) (l l' : Lent)
    → Apart registers walkers request (memory_of l)
    → SwitchedAt (λ before after. after ≤ before) (walked_by_any registers walkers (memory_of l)) l l'
    → ((address : ℕ) → memory_over registers request l ≡ granted address → ⊥)
    → (address : ℕ) → memory_over registers request l' ≡ granted address
    → ⊥

abbrev pub MoreKeeps : Type 0
MoreKeeps =
    (registers : Registers) (request : MemoryRequest) (l l' : Lent) (address : ℕ)
    → ShowsAll l l'
    → memory_over registers request l ≡ granted address
    → memory_over registers request l' ≡ granted address

pub record Isolation : Type 0 where
  -- a memory request that doesn't end in 07h, 08h or 09h gets the same answer, its entry concerned too, over a second memory alike in its
  -- named words
  pub memory : MemoryAlike
  -- so does a translation request; the claims on rights keep to memory requests
  pub translations : TranslationsAlike
  -- so does an interrupt that doesn't end in 23h or 27h, record bytes, entry concerned and notification among its parts; and the same bits are set
  pub interrupts : InterruptsAlike
  -- whichever of the page entries that any memory request walked have read, write or both switched on, a granted request stays
  -- granted, with the same host address; where none of them shares a byte with its root or context entry
  pub rights-on : RightsKeep
  -- whichever of them have either or both switched off, with the same proviso, a request that was blocked or refused isn't granted
  pub rights-off : RightsDeny
  -- so more memory never takes back a grant, whatever is added: a longer window, or a further one
  pub more-memory : MoreKeeps

-- the same of any memory by host address
abbrev pub MoreMemory : Type 0
MoreMemory =
    (registers : Registers) (request : MemoryRequest) (m m' : Memory) (address : ℕ)
    → Extends m m'
    → answer_over registers request m ≡ granted address
    → answer_over registers request m' ≡ granted address

-- The flat image, byte n at host address n, is one window from 0: it isn't refused, and the answers over it are those over the run itself.
pub record FlatImage (image : List ℕ) : Type 0 where
  pub good : bad_windows (flat (length image)) (length image) ≡ false
  pub memory : (registers : Registers) (request : MemoryRequest)
      → memory_answer registers request (flat (length image)) image ≡ answer_over registers request (of_image image)
  pub translations : (registers : Registers) (request : TranslationRequest)
      → translation_answer registers request (flat (length image)) image ≡ run (request_rules registers request) (of_image image)
  pub interrupts : (registers : Registers) (request : InterruptRequest)
      → interrupt_answer registers request (flat (length image)) image ≡ interrupts.answer_over registers request (of_image image)
  pub takes : (registers : Registers) (descriptor : ℕ)
      → take_answer registers descriptor (flat (length image)) image ≡ run (take_rules registers descriptor) (of_image image)

abbrev pub FlatImages : Type 0
FlatImages = (image : List ℕ) → length image ≤ 2 ^ 64 → FlatImage image
