-- A memory request, from registers to answer, as one rules tree.
use Rattle.std.specs.Prelude.{ℕ, List}
use Rattle.std.specs.Prelude.{if◌then◌else◌}
use Rattle.image.specs.EntryKind.{is_page, is_root_or_context}
use Rattle.image.specs.Memory.{Memory}
use Rattle.image.specs.Place.{Place, no_entry, stopped_at}
use Rattle.image.specs.Rules.{Rules, run, map_rules, entries_of}
use Rattle.image.specs.Windows.{over_windows}
use Rattle.registers.specs.Admission.{admission, on_admission, in_interrupt_range}
use Rattle.registers.specs.declared.Registers.{Registers}
use Rattle.faults.specs.Record.{FaultAnswer, memory_fault}
use Rattle.dma.specs.InterruptRange.{meets_interrupt_range, span_at}
use Rattle.dma.specs.Page.{host_address}
use Rattle.dma.specs.Translation.{Translation, through, leaf, fault, translation_rules}
use Rattle.dma.specs.declared.MemoryRequest.{MemoryRequest}

-- document 01's granted, with the host address; blocked, with the fault; refused, by number
pub data MemoryOutcome : Type 0 where
  granted : ℕ → MemoryOutcome
  blocked : FaultAnswer → MemoryOutcome
  refused : ℕ → MemoryOutcome

-- a page with a byte in the interrupt range is refusal 4, whatever the address's offset in it
abbrev pub memory_outcome : MemoryRequest → Translation → MemoryOutcome
memory_outcome request through = granted request.address
memory_outcome request (leaf frame level) =
    if meets_interrupt_range frame (span_at level) then refused 4
    else granted (host_address level frame request.address)
memory_outcome request (fault reason fpd) =
    blocked (memory_fault reason fpd request.source.id request.address request.write)

-- an address in the interrupt range is of the wrong kind; with TE off the address itself is granted
unfoldable pub memory_rules : Registers → MemoryRequest → Rules MemoryOutcome
memory_rules registers request =
    on_admission (admission registers (in_interrupt_range request.address) registers.te) refused
    (granted request.address)
    (map_rules (memory_outcome request) (translation_rules registers request.address request.write request.source.id))

-- document 01's walked entries: the page entries, one that faults included; one that couldn't be fetched isn't among them
abbrev pub walked : Registers → MemoryRequest → Memory → List ℕ
walked registers request = entries_of is_page (memory_rules registers request)

-- the root and context entries, where fetched
abbrev pub table_entries : Registers → MemoryRequest → Memory → List ℕ
table_entries registers request = entries_of is_root_or_context (memory_rules registers request)

-- the entry concerned in an answer: the one at which the rules stopped, where they ended in a fault
abbrev pub concerned : MemoryOutcome → Place → Place
concerned (granted address) place = no_entry
concerned (blocked f) place = place
concerned (refused number) place = no_entry

abbrev pub memory_place : Registers → MemoryRequest → Memory → Place
memory_place registers request m = concerned (run (memory_rules registers request) m) (stopped_at (memory_rules registers request) m)

-- Over lent memory, windows on a run of bytes (document 02, ask 9): windows that are bad are refusal 1, like bad registers
abbrev pub memory_answer : Registers → MemoryRequest → (windows bytes : List ℕ) → MemoryOutcome
memory_answer registers request windows bytes =
    over_windows (refused 1) (run (memory_rules registers request)) windows bytes

-- the entry concerned in it
abbrev pub memory_answer_place : Registers → MemoryRequest → (windows bytes : List ℕ) → Place
memory_answer_place registers request windows bytes =
    over_windows no_entry (memory_place registers request) windows bytes
