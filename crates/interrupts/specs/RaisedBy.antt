-- Which interrupt is raised: a request that is remapped or posted was told so by the entry of its whole index, whose source check
-- admits the request's source. So a device raises none of the interrupts that are set aside for another. Each claim is proved under
-- its name in proofs/RaisedBy.
use Rattle.std.specs.Prelude.{ℕ, ◌+◌, ◌*◌, ◌^◌, ◌<◌, true, false, ◌≡◌}
use Rattle.image.specs.Bits.{bits, bit}
use Rattle.image.specs.Memory.{Memory, found, entry}
use Rattle.registers.specs.declared.Registers.{Registers}
use Rattle.irte.specs.Irte.{Remapped, remapped_by, descriptor_address, reserved_irte}
use Rattle.irte.specs.Source.{source_allowed}
use Rattle.interrupts.specs.Claims.{answer_over, whole_index, indexed_entry}
use Rattle.interrupts.specs.Descriptor.{Notification}
use Rattle.interrupts.specs.Interrupts.{remapped, posted}
use Rattle.interrupts.specs.declared.InterruptRequest.{InterruptRequest}

-- e is the entry of the request's whole index: inside the table, fetched, present, without a reserved bit, and for this source
pub record ItsEntry (registers : Registers) (request : InterruptRequest) (m : Memory) (e : ℕ) : Type 0 where
  pub in_table : whole_index request < 2 ^ (registers.s + 1)
  pub fetched : entry 2 m (indexed_entry registers request) ≡ found e
  pub present : bit e 0 ≡ true
  pub valid : reserved_irte registers e ≡ false
  pub admitted : source_allowed request.source.id e ≡ true

-- a remapped answer is that entry's: vector, destination and modes
abbrev pub RemappedByEntry : Type 0
RemappedByEntry = (registers : Registers) (request : InterruptRequest) (m : Memory) (r : Remapped) →
    answer_over registers request m ≡ remapped r →
    (e : ℕ) × ItsEntry registers request m e × (bit e 15 ≡ false) × (r ≡ remapped_by registers.eime e)

-- a post's descriptor and vector are that entry's
abbrev pub PostedByEntry : Type 0
PostedByEntry = (registers : Registers) (request : InterruptRequest) (m : Memory) (descriptor vector : ℕ) (n : Notification) →
    answer_over registers request m ≡ posted descriptor vector n →
    (e : ℕ) × ItsEntry registers request m e × (bit e 15 ≡ true)
    × (descriptor ≡ descriptor_address e) × (vector ≡ bits e 23 16)

-- a request raises an interrupt: it is remapped or posted
pub data Raises (registers : Registers) (request : InterruptRequest) (m : Memory) : Type 0 where
  remapping : {r : Remapped} → answer_over registers request m ≡ remapped r → Raises registers request m
  posting : {descriptor vector : ℕ} {n : Notification} → answer_over registers request m ≡ posted descriptor vector n →
      Raises registers request m

-- an entry whose source check admits one source alone raises no interrupt for a request of another, whatever its handle and subhandle
abbrev pub OneSource : Type 0
OneSource = (registers : Registers) (m : Memory) (index e owner : ℕ) →
    entry 2 m (registers.interrupt_table + 16 * index) ≡ found e →
    ((source : ℕ) → source_allowed source e ≡ true → source ≡ owner) →
    (request : InterruptRequest) → whole_index request ≡ index → Raises registers request m →
    request.source.id ≡ owner

-- such is an entry with SVT (83:82) 1 and SQ (81:80) 0: its SID (79:64) alone
abbrev pub ExactSource : Type 0
ExactSource = (registers : Registers) (m : Memory) (request : InterruptRequest) (e : ℕ) →
    entry 2 m (indexed_entry registers request) ≡ found e → bits e 83 82 ≡ 1 → bits e 81 80 ≡ 0 →
    Raises registers request m → request.source.id ≡ bits e 79 64
