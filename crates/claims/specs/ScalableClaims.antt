-- What is claimed of requests in scalable mode as it is of legacy ones: access faults, host addresses, what is written and read, the entry
-- concerned. Proved in proofs/ScalableClaims.antt.
use Rattle.std.specs.Prelude.{ℕ, true, false, List, [], ◌⊎◌, ◌≡◌, length, get_or}
use Rattle.image.specs.Memory.{Memory}
use Rattle.image.specs.Place.{no_entry}
use Rattle.image.specs.Rules.{run, named}
use Rattle.image.specs.Unfetched.{EndsUnfetched}
use Rattle.registers.specs.Admission.{taken_up, admission, in_interrupt_range}
use Rattle.faults.specs.Record.{FaultAnswer}
use Rattle.interrupts.specs.Claims.{Shows}
use Rattle.dma.specs.Requests.{MemoryOutcome, granted, blocked}
use Rattle.pasid.specs.declared.ScalableRegisters.{ScalableRegisters}
use Rattle.scalable.specs.Isolation.{access_fault}
use Rattle.scalable.specs.Requests.{pasid_too_wide, scalable_rules, scalable_place, scalable_written}
use Rattle.scalable.specs.declared.ScalableRequest.{ScalableRequest}

abbrev pub outcome_over : ScalableRegisters → ScalableRequest → Memory → MemoryOutcome
outcome_over registers request m = (run (scalable_rules registers request) m).outcome

-- The exception of the claim on locality is no wider than the demand's words: an access fault means an entry that couldn't be fetched, which
-- isn't whole in the memory.
abbrev pub ScalableAccessMeansUnfetched : Type 0
ScalableAccessMeansUnfetched =
    (registers : ScalableRegisters) (request : ScalableRequest) (m : Memory)
    → access_fault (outcome_over registers request m) ≡ true
    → EndsUnfetched (scalable_rules registers request) m

-- The run keeps its length, and a byte of it that no window shows is as it came.
abbrev pub ScalableStaysInside : Type 0
ScalableStaysInside =
    (registers : ScalableRegisters) (request : ScalableRequest) (windows bytes : List ℕ)
    → (length (scalable_written registers request windows bytes) ≡ length bytes)
    × ((place : ℕ) → ((at : ℕ) → Shows windows at place → ⊥) → get_or (scalable_written registers request windows bytes) place 0 ≡ get_or bytes place 0)

-- No granted host address lies in FEE00000h to FEEFFFFFh: by a walk, by pass-through or with TE off.
abbrev pub ScalableNoInterruptGranted : Type 0
ScalableNoInterruptGranted =
    (registers : ScalableRegisters) (request : ScalableRequest) (m : Memory) (host : ℕ)
    → outcome_over registers request m ≡ granted host
    → in_interrupt_range host ≡ false

-- Nothing is read where the request is refused by 1, 2 or 6, or TE is off.
abbrev pub ScalableNoneUntaken : Type 0
ScalableNoneUntaken =
    (registers : ScalableRegisters) (request : ScalableRequest) (m : Memory)
    → (taken_up ≡ admission registers.base (in_interrupt_range request.address) registers.base.te → ⊥) ⊎ (pasid_too_wide request.pasid ≡ true)
    → named (scalable_rules registers request) m ≡ []

-- A blocked request always has an entry concerned: its root entry was tried, if no other.
abbrev pub ScalableAlwaysAnEntry : Type 0
ScalableAlwaysAnEntry =
    (registers : ScalableRegisters) (request : ScalableRequest) (m : Memory) (f : FaultAnswer)
    → outcome_over registers request m ≡ blocked f
    → scalable_place registers request m ≡ no_entry → ⊥
