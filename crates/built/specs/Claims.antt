-- Document 02, ask 8: what requests are answered over the memory that a build leaves. Proved in proofs/Answers.antt.
use Rattle.std.specs.Prelude.{ℕ, ◌+◌, ◌-◌, ◌/◌, ◌<◌, Bool, true, false, not, ◌&&◌, ◌||◌, ◌≡◌, eqb, length, get_or}
use mathlib.Core.List.{List, Memᴰ}
use Rattle.image.specs.Bits.{bit}
use Rattle.std.specs.Prelude.{if◌then◌else◌}
use Rattle.image.specs.EntryKind.{is_page}
use Rattle.image.specs.Memory.{Memory}
use Rattle.image.specs.Rules.{run, entries_of}
use Rattle.image.specs.Windows.{of_windows}
use Rattle.registers.specs.declared.Registers.{Registers}
use Rattle.interrupts.specs.Interrupts.{interrupt_answer, interrupt_answer_place}
use Rattle.interrupts.specs.declared.InterruptRequest.{InterruptRequest}
use Rattle.dma.specs.Lookup.{context, lookup_rules}
use Rattle.dma.specs.Page.{own_right}
use Rattle.dma.specs.Requests.{MemoryOutcome, granted, blocked, refused, walked, memory_answer, memory_answer_place}
use Rattle.dma.specs.declared.MemoryRequest.{MemoryRequest}
use Rattle.dma.specs.declared.context.Context.{Context}
use Rattle.translation.specs.Requests.{TranslationOutcome, translated, request_rules, translation_answer, translation_answer_place}
use Rattle.translation.specs.Rights.{neither}
use Rattle.translation.specs.declared.TranslationRequest.{TranslationRequest}
use Rattle.agreement.specs.Claims.{lacking}
use Rattle.builder.specs.Build.{LentBuffers, all_taken, built}
use Rattle.builder.specs.Items.{item_at}
use Rattle.builder.specs.Reasons.{unmaps}
use Rattle.builder.specs.declared.items.Item.{Item}
use Rattle.leaves.specs.Leaves.{holds}
use Rattle.built.specs.Inside.{InRegion}

-- A source's lookup ends at a context that translates by the tables of the one that was built for: those of that context entry itself, and
-- of any other with the same top table and as many levels.
pub record SameTables (registers : Registers) (m : Memory) (source other : ℕ) : Type 0 where
  pub own : Context
  pub own-context : run (lookup_rules registers source) m ≡ context own
  pub its : Context
  pub its-context : run (lookup_rules registers other) m ≡ context its
  pub top : its.top ≡ own.top
  pub levels : its.levels ≡ own.levels
  pub translates : eqb its.translation_type 2 ≡ false

-- the last item of the list whose page holds an address, by its index
pub record LastOver (items : List ℕ) (address i : ℕ) : Type 0 where
  pub listed : i < length items / 4
  pub here : holds (item_at items i) address ≡ true
  pub last : (j : ℕ) → i < j → j < length items / 4 → holds (item_at items j) address ≡ false

-- no page of the list holds it
abbrev pub Unlisted : (items : List ℕ) (address : ℕ) → Type 0
Unlisted items address = (j : ℕ) → j < length items / 4 → holds (item_at items j) address ≡ false

-- what an item leaves of its page: frame plus offset for the kinds that it maps it for; any other request lacks rights, 05h or 06h
abbrev pub left_to : (fpd : Bool) → Item → MemoryRequest → MemoryOutcome
left_to fpd item r =
    if not (unmaps item) && own_right r.write item.what then granted (item.frame + (r.address - item.place)) else lacking fpd r

-- the answer to a translation request: frame, size and rights of a page that was mapped, or the empty answer
abbrev pub translated_to : Item → TranslationOutcome
translated_to item =
    if unmaps item then translated 0 0 neither
    else translated item.frame item.size (record { read = bit item.what 0; write = bit item.what 1 })

-- blocked by 05h or 06h: after a build the entry that lacks the rights may stand elsewhere
abbrev pub lacks_rights : MemoryOutcome → Bool
lacks_rights (granted address) = false
lacks_rights (blocked f) = eqb f.reason 0x05 || eqb f.reason 0x06
lacks_rights (refused number) = false

module _ (registers : Registers) (source start size : ℕ) (windows items before after : List ℕ) where
  abbrev pub memory_before : Memory
  memory_before = of_windows windows before

  -- over the memory before the build and after it
  pub record Answers : Type 0 where
    -- a memory request at an address of a listed page, of every source that translates by these tables
    pub listed : (request : MemoryRequest) (s : SameTables registers memory_before source request.source.id) (i : ℕ)
        → LastOver items request.address i
        → memory_answer registers request windows after ≡ left_to s.its.fpd (item_at items i) request
    -- at any other address: as before, and the entry concerned too, unless rights are lacking
    pub unlisted : (request : MemoryRequest) → SameTables registers memory_before source request.source.id → Unlisted items request.address
        → (memory_answer registers request windows after ≡ memory_answer registers request windows before)
        × (lacks_rights (memory_answer registers request windows before) ≡ false
        → memory_answer_place registers request windows after ≡ memory_answer_place registers request windows before)
    -- so are translation requests, of which none is blocked for rights; contexts of type 0 have none (0Dh)
    pub translations-listed : (request : TranslationRequest) (s : SameTables registers memory_before source request.source.id) (i : ℕ)
        → eqb s.its.translation_type 0 ≡ false → LastOver items request.address i
        → translation_answer registers request windows after ≡ translated_to (item_at items i)
    pub translations-unlisted : (request : TranslationRequest) → SameTables registers memory_before source request.source.id
        → Unlisted items request.address
        → (translation_answer registers request windows after ≡ translation_answer registers request windows before)
        × (translation_answer_place registers request windows after ≡ translation_answer_place registers request windows before)
    -- every request of which no walked entry lies in the region, of any source: as before, the entry concerned too
    pub others : (request : MemoryRequest)
        → ((at : ℕ) → Memᴰ at (walked registers request memory_before) → InRegion start size at → ⊥)
        → (memory_answer registers request windows after ≡ memory_answer registers request windows before)
        × (memory_answer_place registers request windows after ≡ memory_answer_place registers request windows before)
    pub other-translations : (request : TranslationRequest)
        → ((at : ℕ) → Memᴰ at (entries_of is_page (request_rules registers request) memory_before) → InRegion start size at → ⊥)
        → (translation_answer registers request windows after ≡ translation_answer registers request windows before)
        × (translation_answer_place registers request windows after ≡ translation_answer_place registers request windows before)
    -- every interrupt request
    pub interrupts : (request : InterruptRequest)
        → (interrupt_answer registers request windows after ≡ interrupt_answer registers request windows before)
        × (interrupt_answer_place registers request windows after ≡ interrupt_answer_place registers request windows before)

-- After a success, over lent memory and a copy that are made of bytes: the request engine answers each listed page as the list leaves it, and
-- every other request as before, save the entry concerned where it lacks rights. The premise on other contexts is that of `others`.
abbrev pub BuiltAnswers : Type 0
BuiltAnswers =
    (registers : Registers) (source start size : ℕ) (windows items : List ℕ) (l : LentBuffers)
    → ((n : ℕ) → get_or l.memory n 0 < 256) → ((n : ℕ) → get_or l.copy n 0 < 256)
    → (built registers source start size windows items l).0 ≡ all_taken
    → Answers registers source start size windows items l.memory (built registers source start size windows items l).1.memory
