-- What each call answers, and what it leaves in the buffers that are lent to be written. The first line that applies decides.
use Rattle.std.specs.Prelude.{ℕ, List, ltb, length}
use Rattle.std.specs.Prelude.{if◌then◌else◌}
use Rattle.image.specs.Place.{Place}
use Rattle.dma.specs.Requests.{memory_answer, memory_answer_place}
use Rattle.interrupts.specs.Interrupts.{InterruptOutcome, interrupt_answer, interrupt_answer_place}
use Rattle.interrupts.specs.Post.{interrupt_written}
use Rattle.interrupts.specs.declared.InterruptRequest.{InterruptRequest}
use Rattle.packing.specs.Answer.{memory_bytes, interrupt_bytes}
use Rattle.packing.specs.Arguments.{on_arguments, memory_request}
use Rattle.packing.specs.Registers.{unpacked}
use Rattle.packing.specs.Status.{ok, bad_kind}

-- the status, and the buffer for the answer
unfoldable pub memory_call : (registers windows image : List ℕ) (source address write : ℕ) (answer : List ℕ) → ℕ × List ℕ
memory_call registers windows image source address write answer =
    on_arguments registers windows (length answer) (λ (s : ℕ). (s, answer))
    (if ltb 1 write then (bad_kind, answer)
    else (
      ok,
      memory_bytes (memory_answer (unpacked registers) (memory_request source address write) windows image)
          (memory_answer_place (unpacked registers) (memory_request source address write) windows image),
    ))

abbrev pub interrupt_request : (source address «data» : ℕ) → InterruptRequest
interrupt_request source address «data» =
    record { source = record { id = source }; address = address; «data» = «data» }

-- the status, the image, and the buffer for the answer
abbrev pub interrupted : (windows : List ℕ) → InterruptOutcome → Place → List ℕ → ℕ × List ℕ × List ℕ
interrupted windows outcome place image = (ok, interrupt_written windows outcome image, interrupt_bytes outcome place)

unfoldable pub interrupt_call : (registers windows image : List ℕ) (source address «data» : ℕ) (answer : List ℕ)
    → ℕ × List ℕ × List ℕ
interrupt_call registers windows image source address «data» answer =
    on_arguments registers windows (length answer) (λ (s : ℕ). (s, image, answer))
    (interrupted windows (interrupt_answer (unpacked registers) (interrupt_request source address «data») windows image)
    (interrupt_answer_place (unpacked registers) (interrupt_request source address «data») windows image) image)
