-- What is traced of the unit's requests and answers. A fault's record isn't: it follows from the request and the reason.
use Rattle.std.specs.Prelude.{ℕ, ◌+◌, ◌*◌, ◌%◌, Bool, eqb}
use Rattle.std.specs.Prelude.{if◌then◌else◌}
use Rattle.image.specs.Choice.{one-if}
use Rattle.image.specs.Place.{Place, no_entry, entry_at}
use Rattle.faults.specs.Record.{FaultAnswer}
use Rattle.dma.specs.Requests as dma
use Rattle.dma.specs.declared.MemoryRequest.{MemoryRequest}
use Rattle.irte.specs.Irte.{Remapped}
use Rattle.interrupts.specs.Descriptor.{Notification, silent, notification}
use Rattle.interrupts.specs.Interrupts as interrupts
use Rattle.interrupts.specs.declared.InterruptRequest.{InterruptRequest}
use Rattle.translation.specs.Requests as translation
use Rattle.translation.specs.declared.TranslationRequest.{TranslationRequest}
use Rattle.traced.specs.declared.Traced.{Traced}

-- a request of a kind, with an answer and its number, flags and value; no vector, no destination and nothing posted
abbrev pub plain : (kind source address «data» : ℕ) (answer number flags value : ℕ) → Traced
plain kind source address «data» answer number flags value =
    record {
      kind = kind;
      answer = answer;
      number = number;
      flags = flags;
      source = source;
      vector = 0;
      posted = 0;
      address = address;
      «data» = «data»;
      destination = 0;
      value = value;
    }

-- flag 0 that it may be recorded, flag 1 that the value is the address of the entry concerned
abbrev pub fault_traced : (kind source address «data» : ℕ) → FaultAnswer → Place → Traced
fault_traced kind source address «data» f no_entry = plain kind source address «data» 2 f.reason (one-if f.recordable) 0
fault_traced kind source address «data» f (entry_at at) = plain kind source address «data» 2 f.reason (one-if f.recordable + 2) at

abbrev pub kind_of : (write : Bool) → ℕ
kind_of write = if write then 2 else 1

unfoldable pub memory_traced : MemoryRequest → dma.MemoryOutcome → Place → Traced
memory_traced q (dma.granted host) place = plain (kind_of q.write) q.source.id q.address 0 3 0 0 host
memory_traced q (dma.blocked f) place = fault_traced (kind_of q.write) q.source.id q.address 0 f place
memory_traced q (dma.refused number) place = plain (kind_of q.write) q.source.id q.address 0 1 number 0 0

-- the parts of an interrupt that is remapped or posted
abbrev pub raised : InterruptRequest → (answer flags vector posted destination value : ℕ) → Traced
raised q answer flags vector posted destination value =
    record {
      kind = 3;
      answer = answer;
      number = 0;
      flags = flags;
      source = q.source.id;
      vector = vector;
      posted = posted;
      address = q.address;
      «data» = q.«data»;
      destination = destination;
      value = value;
    }

-- flag 0 destination mode, 1 redirection hint, 2 trigger mode, 5:3 delivery mode, which has three bits
abbrev pub modes_of : Remapped → ℕ
modes_of r = one-if r.destination_mode + 2 * one-if r.redirection_hint + 4 * one-if r.trigger + 8 * (r.delivery % 8)

abbrev pub post_traced : InterruptRequest → (descriptor posted : ℕ) → Notification → Traced
post_traced q descriptor posted silent = raised q 6 0 0 posted 0 descriptor
post_traced q descriptor posted (notification vector destination) = raised q 7 0 vector posted destination descriptor

unfoldable pub interrupt_traced : InterruptRequest → interrupts.InterruptOutcome → Place → Traced
interrupt_traced q interrupts.passed place = plain 3 q.source.id q.address q.«data» 4 0 0 0
interrupt_traced q (interrupts.remapped r) place = raised q 5 (modes_of r) r.vector 0 r.destination 0
interrupt_traced q (interrupts.posted descriptor vector n) place = post_traced q descriptor vector n
interrupt_traced q (interrupts.blocked f) place = fault_traced 3 q.source.id q.address q.«data» f place
interrupt_traced q (interrupts.refused number) place = plain 3 q.source.id q.address q.«data» 1 number 0 0

-- a page's size by its address bits; the empty answer's size is 0
abbrev pub width_of : (size : ℕ) → ℕ
width_of size = if eqb size 0x1000 then 12 else if eqb size 0x20_0000 then 21 else if eqb size 0x4000_0000 then 30 else 0

-- with TE off the address itself is granted; of a page flag 0 is the right to read, flag 1 the right to write
unfoldable pub translation_traced : TranslationRequest → translation.TranslationOutcome → Place → Traced
translation_traced q (translation.passed address) place = plain 4 q.source.id q.address 0 3 0 0 address
translation_traced q (translation.translated frame size rights) place =
    plain 4 q.source.id q.address 0 8 (width_of size) (one-if rights.read + 2 * one-if rights.write) frame
translation_traced q (translation.blocked f) place = fault_traced 4 q.source.id q.address 0 f place
translation_traced q (translation.refused number) place = plain 4 q.source.id q.address 0 1 number 0 0
