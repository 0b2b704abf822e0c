-- A translation request, from registers to answer, as one rules tree.
use Rattle.std.specs.Prelude.{ℕ, List}
use Rattle.std.specs.Prelude.{if◌then◌else◌}
use Rattle.image.specs.Memory.{Memory}
use Rattle.image.specs.Place.{Place, no_entry, stopped_at}
use Rattle.image.specs.Rules.{Rules, run, map_rules}
use Rattle.image.specs.Windows.{over_windows}
use Rattle.registers.specs.Admission.{admission, on_admission, in_interrupt_range}
use Rattle.registers.specs.declared.Registers.{Registers}
use Rattle.faults.specs.Record.{FaultAnswer, translation_fault}
use Rattle.dma.specs.InterruptRange.{meets_interrupt_range, span_at}
use Rattle.translation.specs.Completion.{Completion, page, empty, fault, completion_rules}
use Rattle.translation.specs.Rights.{neither}
use Rattle.translation.specs.declared.Rights.{Rights}
use Rattle.translation.specs.declared.TranslationRequest.{TranslationRequest}

-- passed unchanged, with the address; document 02's frame, size in bytes and rights; blocked, with the fault; refused, by number
pub data TranslationOutcome : Type 0 where
  passed : (address : ℕ) → TranslationOutcome
  translated : (frame size : ℕ) → Rights → TranslationOutcome
  blocked : FaultAnswer → TranslationOutcome
  refused : ℕ → TranslationOutcome

-- a page with a byte in the interrupt range is refusal 4. The empty answer has both bits off, frame and size 0
abbrev pub translation_outcome : TranslationRequest → Completion → TranslationOutcome
translation_outcome request (page frame level rights) =
    if meets_interrupt_range frame (span_at level) then refused 4
    else translated frame (span_at level) rights
translation_outcome request empty = translated 0 0 neither
translation_outcome request (fault reason fpd) =
    blocked (translation_fault reason fpd request.source.id request.address)

-- refusals 1 and 2 and the switch are those of untranslated requests; with TE off the address itself is passed
unfoldable pub request_rules : Registers → TranslationRequest → Rules TranslationOutcome
request_rules registers request =
    on_admission (admission registers (in_interrupt_range request.address) registers.te) refused
    (passed request.address)
    (map_rules (translation_outcome request) (completion_rules registers request.address request.source.id))

-- the answer that the rules give over a memory
abbrev pub answer_over : Registers → TranslationRequest → Memory → TranslationOutcome
answer_over registers request = run (request_rules registers request)

-- the entry concerned in an answer: the one at which the rules stopped, where they ended in a fault
abbrev pub concerned : TranslationOutcome → Place → Place
concerned (passed address) place = no_entry
concerned (translated frame size rights) place = no_entry
concerned (blocked f) place = place
concerned (refused number) place = no_entry

abbrev pub translation_place : Registers → TranslationRequest → Memory → Place
translation_place registers request m =
    concerned (answer_over registers request m) (stopped_at (request_rules registers request) m)

-- over lent memory, windows on a run of bytes: windows that are bad are refusal 1, like bad registers
abbrev pub translation_answer : Registers → TranslationRequest → (windows bytes : List ℕ) → TranslationOutcome
translation_answer registers request windows bytes =
    over_windows (refused 1) (answer_over registers request) windows bytes

-- the entry concerned in it
abbrev pub translation_answer_place : Registers → TranslationRequest → (windows bytes : List ℕ) → Place
translation_answer_place registers request windows bytes =
    over_windows no_entry (translation_place registers request) windows bytes
