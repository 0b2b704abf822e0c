-- Document 01, interrupts: a request from the registers to its answer, as one rules tree. Its named words are those of the entry, then
-- those of the descriptor, each only where it was fetched.
use Rattle.std.specs.Prelude.{ℕ, ◌+◌, ◌*◌, ◌^◌, Bool, false, not, List, leb}
use Rattle.image.specs.Check.{on_check}
use Rattle.std.specs.Prelude.{if◌then◌else◌}
use Rattle.image.specs.EntryKind.{remapping_entry, posted_descriptor}
use Rattle.image.specs.Memory.{Memory}
use Rattle.image.specs.Place.{Place, no_entry, stopped_at}
use Rattle.image.specs.Rules.{Rules, answer, run, map_rules}
use Rattle.image.specs.Stage.{stage}
use Rattle.image.specs.Windows.{over_windows}
use Rattle.registers.specs.Admission.{admission, on_admission, in_interrupt_range}
use Rattle.registers.specs.declared.Registers.{Registers}
use Rattle.faults.specs.Record.{FaultAnswer, interrupt_fault}
use Rattle.interrupts.specs.declared.InterruptRequest.{InterruptRequest}
use Rattle.interrupts.specs.Request.{Format, compatibility, remappable, request_check}
use Rattle.irte.specs.Irte.{Remapped, Irte, remaps, posts, irte_check, fault_processing_disabled}
use Rattle.interrupts.specs.Descriptor.{Notification, descriptor_check}

-- what the table makes of a request: a fault with FPD as it was read by then, the remapped answer, or a post of a vector to the
-- descriptor at an address
pub data Delivery : Type 0 where
  fault : (reason : ℕ) (fpd : Bool) → Delivery
  remap : Remapped → Delivery
  post : (descriptor vector : ℕ) → Notification → Delivery

unfoldable pub descriptor_rules : (eime urgent fpd : Bool) (at vector : ℕ) → Rules Delivery
descriptor_rules eime urgent fpd at vector =
    stage posted_descriptor at (fault 0x27 fpd) (descriptor_check eime urgent) (λ d reason. fault reason fpd) (λ n. answer (post at vector n))

abbrev pub on_irte : (eime : Bool) → Irte → Rules Delivery
on_irte eime (remaps r) = answer (remap r)
on_irte eime (posts descriptor vector urgent fpd) = descriptor_rules eime urgent fpd descriptor vector

unfoldable pub index_rules : Registers → (source index : ℕ) → Rules Delivery
index_rules registers source index =
    if leb (2 ^ (registers.s + 1)) index then answer (fault 0x21 false)
    else
    stage remapping_entry (registers.interrupt_table + 16 * index) (fault 0x23 false)
    (irte_check registers source) (λ e reason. fault reason (fault_processing_disabled e)) (on_irte registers.eime)

pub data InterruptOutcome : Type 0 where
  -- the request goes on unchanged
  passed : InterruptOutcome
  remapped : Remapped → InterruptOutcome
  -- a vector was posted to the descriptor at an address
  posted : (descriptor vector : ℕ) → Notification → InterruptOutcome
  blocked : FaultAnswer → InterruptOutcome
  refused : (number : ℕ) → InterruptOutcome

abbrev pub delivered : (source index : ℕ) → Delivery → InterruptOutcome
delivered source index (fault reason fpd) = blocked (interrupt_fault reason fpd source index)
delivered source index (remap r) = remapped r
delivered source index (post descriptor vector n) = posted descriptor vector n

abbrev pub on_format : Registers → (source : ℕ) → Format → Rules InterruptOutcome
on_format registers source compatibility = answer passed
on_format registers source (remappable index) = map_rules (delivered source index) (index_rules registers source index)

-- a request that its format's check stops has no index
unfoldable pub request_rules : Registers → InterruptRequest → Rules InterruptOutcome
request_rules registers request =
    on_check (request_check registers request.address request.«data»)
    (λ reason. answer (blocked (interrupt_fault reason false request.source.id 0)))
    (on_format registers request.source.id)

unfoldable pub interrupt_rules : Registers → InterruptRequest → Rules InterruptOutcome
interrupt_rules registers request =
    on_admission (admission registers (not (in_interrupt_range request.address)) registers.ire)
    refused passed (request_rules registers request)

-- the entry concerned in an answer: the one at which the rules stopped, where they ended in a fault; none with 20h, 21h and 25h, which
-- end a request before its first fetch
abbrev pub concerned : InterruptOutcome → Place → Place
concerned (blocked f) place = place
concerned passed place = no_entry
concerned (remapped r) place = no_entry
concerned (posted descriptor vector n) place = no_entry
concerned (refused number) place = no_entry

abbrev pub interrupt_place : Registers → InterruptRequest → Memory → Place
interrupt_place registers request m = concerned (run (interrupt_rules registers request) m) (stopped_at (interrupt_rules registers request) m)

-- Over lent memory (document 02, ask 9): windows that are refused are refusal 1, before all else. Else the rules decide, over the memory
-- that the windows show of the run.
abbrev pub interrupt_answer : Registers → InterruptRequest → (windows bytes : List ℕ) → InterruptOutcome
interrupt_answer registers request windows bytes =
    over_windows (refused 1) (run (interrupt_rules registers request)) windows bytes

-- the entry concerned in it
abbrev pub interrupt_answer_place : Registers → InterruptRequest → (windows bytes : List ℕ) → Place
interrupt_answer_place registers request windows bytes =
    over_windows no_entry (interrupt_place registers request) windows bytes
