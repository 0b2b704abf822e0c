-- A device's memory request never raises an interrupt. Proved in proofs/NoInterrupt.antt.
use Rattle.std.specs.Prelude.{ℕ, ◌+◌, ◌≤◌, ◌<◌, false, ◌≡◌}
use Rattle.image.specs.Memory.{Memory}
use Rattle.registers.specs.Admission.{in_interrupt_range}
use Rattle.registers.specs.declared.Registers.{Registers}
use Rattle.dma.specs.InterruptRange.{meets_interrupt_range}
use Rattle.dma.specs.Isolation.{answer_over}
use Rattle.dma.specs.Requests.{granted}
use Rattle.dma.specs.declared.MemoryRequest.{MemoryRequest}

-- no granted host address lies in the interrupt range: by a walk, by pass-through or with TE off
abbrev pub NoInterruptGranted : Type 0
NoInterruptGranted =
    (registers : Registers) (request : MemoryRequest) (m : Memory) (host : ℕ)
    → answer_over registers request m ≡ granted host
    → in_interrupt_range host ≡ false

-- every byte of a page lies outside the range
abbrev pub Clear : (frame span : ℕ) → Type 0
Clear frame span = (byte : ℕ) → frame ≤ byte → byte < frame + span → in_interrupt_range byte ≡ false

-- refusal 4's test fails for the pages that are clear of the range, and for no others
pub record TestedExactly (frame span : ℕ) : Type 0 where
  pub clear : meets_interrupt_range frame span ≡ false → Clear frame span
  pub untouched : Clear frame span → meets_interrupt_range frame span ≡ false

abbrev pub WholeFrameTested : Type 0
WholeFrameTested = (frame span : ℕ) → 0 < span → TestedExactly frame span
