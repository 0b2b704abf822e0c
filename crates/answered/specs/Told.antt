-- What an entry of the trace tells: its request and its answer. A fault's record is made of the request and the reason, as document 01 has it.
use Rattle.std.specs.Prelude.{ℕ, not, ◌&&◌, eqb}
use Rattle.image.specs.Bits.{bits, bit}
use Rattle.std.specs.Prelude.{if◌then◌else◌}
use Rattle.image.specs.Place.{Place, no_entry, entry_at}
use Rattle.faults.specs.Record.{FaultAnswer, memory_record, translation_record, interrupt_record}
use Rattle.dma.specs.Requests as dma
use Rattle.dma.specs.declared.MemoryRequest.{MemoryRequest}
use Rattle.translation.specs.Requests as translation
use Rattle.translation.specs.declared.TranslationRequest.{TranslationRequest}
use Rattle.irte.specs.Irte.{Remapped}
use Rattle.interrupts.specs.Claims.{whole_index}
use Rattle.interrupts.specs.Descriptor.{silent, notification}
use Rattle.interrupts.specs.Interrupts as interrupts
use Rattle.interrupts.specs.declared.InterruptRequest.{InterruptRequest}
use Rattle.traced.specs.declared.Traced.{Traced}

module _ (e : Traced) where
  abbrev pub memory_in : MemoryRequest
  memory_in = record { source = record { id = e.source }; address = e.address; write = eqb e.kind 2 }

  abbrev pub translation_in : TranslationRequest
  translation_in = record { source = record { id = e.source }; address = e.address }

  abbrev pub interrupt_in : InterruptRequest
  interrupt_in = record { source = record { id = e.source }; address = e.address; «data» = e.«data» }

  -- the entry concerned in a fault
  abbrev pub concerned_in : Place
  concerned_in = if eqb e.answer 2 && bit e.flags 1 then entry_at e.value else no_entry

  abbrev pub fault_in : (contents : ℕ) → FaultAnswer
  fault_in contents = record { reason = e.number; recordable = bit e.flags 0; contents = contents }

  abbrev pub memory_outcome_in : dma.MemoryOutcome
  memory_outcome_in =
      if eqb e.answer 1 then dma.refused e.number
      else if eqb e.answer 2 then dma.blocked (fault_in (memory_record e.source e.address e.number (not (eqb e.kind 2))))
      else dma.granted e.value

  -- a page's bytes, by its address bits
  abbrev pub size_in : ℕ
  size_in =
      if eqb e.number 12 then 0x1000
      else if eqb e.number 21 then 0x20_0000
      else if eqb e.number 30 then 0x4000_0000
      else 0

  abbrev pub translation_outcome_in : translation.TranslationOutcome
  translation_outcome_in =
      if eqb e.answer 1 then translation.refused e.number
      else if eqb e.answer 2 then translation.blocked (fault_in (translation_record e.source e.address e.number))
      else if eqb e.answer 3 then translation.passed e.value
      else translation.translated e.value size_in (record { read = bit e.flags 0; write = bit e.flags 1 })

  abbrev pub remapped_in : Remapped
  remapped_in =
      record {
        destination_mode = bit e.flags 0;
        redirection_hint = bit e.flags 1;
        trigger = bit e.flags 2;
        delivery = bits e.flags 5 3;
        vector = e.vector;
        destination = e.destination;
      }

  abbrev pub interrupt_outcome_in : interrupts.InterruptOutcome
  interrupt_outcome_in =
      if eqb e.answer 1 then interrupts.refused e.number
      else if eqb e.answer 2 then interrupts.blocked (fault_in (interrupt_record e.source (whole_index interrupt_in) e.number))
      else if eqb e.answer 4 then interrupts.passed
      else if eqb e.answer 5 then interrupts.remapped remapped_in
      else if eqb e.answer 6 then interrupts.posted e.value e.posted silent
      else interrupts.posted e.value e.posted (notification e.vector e.destination)
