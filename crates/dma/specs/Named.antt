-- How many words a memory request names. Proved in proofs/Nine.antt.
use Rattle.std.specs.Prelude.{◌≤◌, ◌≡◌, [], length}
use Rattle.image.specs.Memory.{Memory}
use Rattle.image.specs.Rules.{named}
use Rattle.registers.specs.Admission.{taken_up, admission, in_interrupt_range}
use Rattle.registers.specs.declared.Registers.{Registers}
use Rattle.dma.specs.Requests.{memory_rules}
use Rattle.dma.specs.declared.MemoryRequest.{MemoryRequest}

-- never more than nine words
abbrev pub AtMostNine : Type 0
AtMostNine =
    (registers : Registers) (request : MemoryRequest) (m : Memory)
    → length (named (memory_rules registers request) m) ≤ 9

-- none where the request is refused by 1 or 2, or TE is off
abbrev pub NoneUntaken : Type 0
NoneUntaken =
    (registers : Registers) (request : MemoryRequest) (m : Memory)
    → (taken_up ≡ admission registers (in_interrupt_range request.address) registers.te → ⊥)
    → named (memory_rules registers request) m ≡ []
