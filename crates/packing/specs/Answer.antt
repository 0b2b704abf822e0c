-- The 32 bytes of an answer. Kind 0 is none, so that a buffer of zeros is no answer.
use Rattle.std.specs.Prelude.{ℕ, ◌+◌, ◌*◌, List, [], ◌∷◌, ◌++◌}
use Rattle.image.specs.Bytes.{bytes_of, spell}
use Rattle.image.specs.Choice.{one-if}
use Rattle.image.specs.Place.{Place, no_entry, entry_at}
use Rattle.faults.specs.Record.{FaultAnswer}
use Rattle.dma.specs.Requests as dma
use Rattle.interrupts.specs.Descriptor.{Notification, silent, notification}
use Rattle.interrupts.specs.Interrupts as interrupts
use Rattle.irte.specs.Irte.{Remapped}
use Rattle.packing.specs.declared.answer.Packed.{Packed}

-- byte 0 the kind, bytes 1, 2 and 3, and bytes 7:4, 23:8 and 31:24 as numbers; what a kind doesn't name is 0
abbrev pub laid : (kind one two three four eight last : ℕ) → List ℕ
laid kind one two three four eight last = (kind ∷ one ∷ two ∷ three ∷ bytes_of 4 four) ++ bytes_of 16 eight ++ bytes_of 8 last

-- the kinds: 1 blocked, 2 refused, 3 passed, 4 remapped, 5 posted, 6 granted, 7 translated, 8 empty
abbrev pub last_kind : ℕ
last_kind = 8

-- byte 3 is 1 where bytes 31:24 are the address of the entry concerned
abbrev pub blocked_bytes : FaultAnswer → Place → List ℕ
blocked_bytes f no_entry = laid 1 f.reason (one-if f.recordable) 0 0 f.contents 0
blocked_bytes f (entry_at at) = laid 1 f.reason (one-if f.recordable) 1 0 f.contents at

abbrev pub refused_bytes : ℕ → List ℕ
refused_bytes number = laid 2 number 0 0 0 0 0

abbrev pub memory_bytes : dma.MemoryOutcome → Place → List ℕ
memory_bytes (dma.granted address) place = laid 6 0 0 0 0 address 0
memory_bytes (dma.blocked f) place = blocked_bytes f place
memory_bytes (dma.refused number) place = refused_bytes number

abbrev pub passed_bytes : List ℕ
passed_bytes = laid 3 0 0 0 0 0 0

-- bit 0 destination mode, bit 1 redirection hint, bit 2 trigger mode
abbrev pub modes : Remapped → ℕ
modes r = one-if r.destination_mode + 2 * one-if r.redirection_hint + 4 * one-if r.trigger

abbrev pub remapped_bytes : Remapped → List ℕ
remapped_bytes r = laid 4 r.vector r.delivery (modes r) r.destination 0 0

-- byte 1 is 1 where a notification is due; byte 3 is the posted vector, bytes 15:8 are the descriptor's address
abbrev pub posted_bytes : (descriptor posted : ℕ) → Notification → List ℕ
posted_bytes descriptor posted silent = laid 5 0 0 posted 0 descriptor 0
posted_bytes descriptor posted (notification vector destination) = laid 5 1 vector posted destination descriptor 0

abbrev pub interrupt_bytes : interrupts.InterruptOutcome → Place → List ℕ
interrupt_bytes interrupts.passed place = passed_bytes
interrupt_bytes (interrupts.remapped r) place = remapped_bytes r
interrupt_bytes (interrupts.posted descriptor vector n) place = posted_bytes descriptor vector n
interrupt_bytes (interrupts.blocked f) place = blocked_bytes f place
interrupt_bytes (interrupts.refused number) place = refused_bytes number

-- the code's four words
abbrev pub bytes_of_packed : Packed → List ℕ
bytes_of_packed p = bytes_of 8 p.head ++ bytes_of 16 (spell (p.low ∷ p.high ∷ [])) ++ bytes_of 8 p.last
