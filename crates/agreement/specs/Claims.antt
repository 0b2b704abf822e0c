-- Document 02, Ask 4: the spans that are listed agree with the request engine, and lie in order. Proved in proofs/.
use Rattle.std.specs.Prelude.{ℕ, ◌+◌, ◌-◌, ◌*◌, ◌≤◌, ◌<◌, Bool, true, false, ◌⊎◌, ◌≡◌, eqb, length, take}
use mathlib.Core.List.{List, [], ◌∷◌, Memᴰ}
use Rattle.std.specs.Prelude.{if◌then◌else◌}
use Rattle.image.specs.Memory.{Memory, missing, entry}
use Rattle.image.specs.Rules.{run}
use Rattle.image.specs.Windows.{of_windows}
use Rattle.registers.specs.Admission.{taken_up, admission, in_interrupt_range}
use Rattle.registers.specs.declared.Registers.{Registers}
use Rattle.registers.specs.declared.source_id.SourceId.{SourceId}
use Rattle.faults.specs.Record.{memory_fault}
use Rattle.dma.specs.Lookup.{context, lookup_rules}
use Rattle.dma.specs.Page.{denied}
use Rattle.dma.specs.Requests.{MemoryOutcome, granted, blocked, refused, memory_rules}
use Rattle.dma.specs.declared.MemoryRequest.{MemoryRequest}
use Rattle.dma.specs.declared.context.Context.{Context}
use Rattle.translation.specs.Rights.{right_of}
use Rattle.regions.specs.Outside.{table_outside}
use Rattle.regions.specs.Region.{What}
use Rattle.regions.specs.Region as region
use Rattle.mapping.specs.Mapping.{spans_mapped, space_end, spans, mapping}
use Rattle.mapping.specs.Spans.{Span}

-- tables of which no byte is in a memory: none of their entries can be fetched
abbrev pub NoEntryOutside : Memory → (outside : (table : ℕ) → Bool) → Type 0
NoEntryOutside m outside = (table n : ℕ) → outside table ≡ true → n < 512 → entry 1 m (table + 8 * n) ≡ missing

-- as the windows of lent memory tell it
abbrev pub WindowsTell : Type 0
WindowsTell = (windows bytes : List ℕ) → NoEntryOutside (of_windows windows bytes) (table_outside windows)

-- where tables are walked: the registers are good, TE is on, and the source's context translates
pub record WalkedTables (registers : Registers) (source : ℕ) (m : Memory) : Type 0 where
  pub taken : taken_up ≡ admission registers false registers.te
  pub own : Context
  pub own-context : run (lookup_rules registers source) m ≡ context own
  pub type : eqb own.translation_type 2 ≡ false

-- there the listing is that of the context's spans
abbrev pub ListedWhereWalked : Type 0
ListedWhereWalked =
    (registers : Registers) (source : ℕ) (m : Memory) (outside : (table : ℕ) → Bool) (w : WalkedTables registers source m)
    → mapping registers m outside source ≡ spans_mapped (spans registers m outside w.own)

-- an address of a span
abbrev pub In : (address : ℕ) → Span → Type 0
In address s = (s.start ≤ address) × (address < s.start + s.size)

abbrev pub request : SourceId → (address : ℕ) (write : Bool) → MemoryRequest
request source address write = record { source = source; address = address; write = write }

-- what an untranslated request is answered
abbrev pub answer_at : Registers → Memory → MemoryRequest → MemoryOutcome
answer_at registers m r = run (memory_rules registers r) m

-- it lacks the right: 05h or 06h
abbrev pub lacking : (fpd : Bool) → MemoryRequest → MemoryOutcome
lacking fpd r = blocked (memory_fault (denied r.write) fpd r.source.id r.address r.write)

-- as a span tells it: the frame plus the offset, its fault, or its refusal
abbrev pub told_by : (fpd : Bool) → What → (start : ℕ) → MemoryRequest → MemoryOutcome
told_by fpd (region.page frame) start r = granted (frame + (r.address - start))
told_by fpd (region.fault reason) start r = blocked (memory_fault reason fpd r.source.id r.address r.write)
told_by fpd (region.refused number) start r = refused number
told_by fpd region.nothing start r = lacking fpd r

-- a listed span agrees with the request engine at every address for the kinds that its joined rights allow, and any other request there
-- lacks rights
abbrev pub SpansAgree : Type 0
SpansAgree =
    (registers : Registers) (source : SourceId) (m : Memory) (outside : (table : ℕ) → Bool) → NoEntryOutside m outside
    → (w : WalkedTables registers source.id m) (s : Span) → Memᴰ s (spans registers m outside w.own)
    → (address : ℕ) (write : Bool) → In address s → in_interrupt_range address ≡ false
    → answer_at registers m (request source address write)
    ≡ (if right_of write s.rights then told_by w.own.fpd s.what s.start (request source address write)
    else lacking w.own.fpd (request source address write))

-- a span begins behind an address
pub record Before (address : ℕ) (l : List Span) : Type 0 where
  pub behind : Span
  pub among : Memᴰ behind l
  pub later : address < behind.start

-- so does any request at an address of no span; where more spans follow the ones that are listed, up to the last of these
abbrev pub OthersLack : Type 0
OthersLack =
    (registers : Registers) (source : SourceId) (m : Memory) (outside : (table : ℕ) → Bool) → NoEntryOutside m outside
    → (w : WalkedTables registers source.id m) (n address : ℕ) (write : Bool)
    → address < space_end registers m outside w.own → in_interrupt_range address ≡ false
    → ((s : Span) → Memᴰ s (take n (spans registers m outside w.own)) → In address s → ⊥)
    → (length (spans registers m outside w.own) ≤ n) ⊎ Before address (take n (spans registers m outside w.own))
    → answer_at registers m (request source address write) ≡ lacking w.own.fpd (request source address write)

-- spans one after the other, from an address to an end, none of them empty
unfoldable pub InOrder : (from end : ℕ) → List Span → Type 0
InOrder from end [] = Unit {0}
InOrder from end (s ∷ ss) = (from ≤ s.start) × (0 < s.size) × (s.start + s.size ≤ end) × InOrder (s.start + s.size) end ss

abbrev pub SpansInOrder : Type 0
SpansInOrder =
    (registers : Registers) (source : ℕ) (m : Memory) (outside : (table : ℕ) → Bool) (w : WalkedTables registers source m)
    → InOrder 0 (space_end registers m outside w.own) (spans registers m outside w.own)
