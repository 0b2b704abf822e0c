-- The arguments that calls have in common.
use Rattle.std.specs.Prelude.{ℕ, ◌%◌, Bool, not, List, eqb, length}
use Rattle.std.specs.Prelude.{if◌then◌else◌}
use Rattle.dma.specs.declared.MemoryRequest.{MemoryRequest}
use Rattle.packing.specs.Registers.{malformed_registers}
use Rattle.packing.specs.Status.{ok, bad_registers, bad_window_count, bad_answer}

-- three numbers a window; how many windows there may be, and what they hold, is refusal 1's
abbrev pub malformed_windows : List ℕ → Bool
malformed_windows windows = not (eqb (length windows % 3) 0)

-- how a call of a request begins, in this order: bad of the status where its registers, its windows or its buffer for the answer, of this size,
-- aren't laid out well, else good
abbrev pub on_arguments : (registers windows : List ℕ) (size : ℕ) {B : Type 0} (bad : ℕ → B) (good : B) → B
on_arguments registers windows size bad good =
    if malformed_registers registers then bad bad_registers
    else if malformed_windows windows then bad bad_window_count
    else if not (eqb size 32) then bad bad_answer
    else good

-- the status alone
abbrev pub argument_status : (registers windows : List ℕ) (size : ℕ) → ℕ
argument_status registers windows size = on_arguments registers windows size (λ (s : ℕ). s) ok

-- write is 1 for a write, 0 for a read
abbrev pub memory_request : (source address write : ℕ) → MemoryRequest
memory_request source address write =
    record { source = record { id = source }; address = address; write = eqb write 1 }
