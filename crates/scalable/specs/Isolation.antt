-- Demand 3's first claim for reads and writes in scalable mode, and what they write. Proved in proofs/Isolation.antt and proofs/Written.antt.
use Rattle.std.specs.Prelude.{ℕ, ◌/◌, Bool, false, ◌&&◌, ◌||◌, List, ◌≡◌, eqb}
use Rattle.image.specs.Memory.{Memory}
use Rattle.image.specs.Rules.{run, named, SameIn}
use Rattle.interrupts.specs.Claims.{bit_at}
use Rattle.dma.specs.Requests.{MemoryOutcome, granted, blocked, refused}
use Rattle.pasid.specs.declared.ScalableRegisters.{ScalableRegisters}
use Rattle.flags.specs.Claims.{among, is_shown}
use Rattle.scalable.specs.Requests.{scalable_rules, scalable_place, scalable_decision, scalable_answer, scalable_written}
use Rattle.scalable.specs.declared.ScalableRequest.{ScalableRequest}

-- 38h, 40h, 50h, 58h, 70h, 73h, 78h and 7Bh: an entry can't be fetched
abbrev pub access_reason : ℕ → Bool
access_reason reason =
    eqb reason 0x38
    || eqb reason 0x40
    || eqb reason 0x50
    || eqb reason 0x58
    || eqb reason 0x70
    || eqb reason 0x73
    || eqb reason 0x78
    || eqb reason 0x7B

abbrev pub access_fault : MemoryOutcome → Bool
access_fault (granted address) = false
access_fault (blocked f) = access_reason f.reason
access_fault (refused number) = false

-- Where another memory has the same in the words that a request names, its answer, the flags that it sets and the entry concerned are the same,
-- unless the answer is an access fault.
abbrev pub ScalableLocality : Type 0
ScalableLocality =
    (registers : ScalableRegisters) (request : ScalableRequest) (m m' : Memory)
    → access_fault (run (scalable_rules registers request) m).outcome ≡ false
    → SameIn (named (scalable_rules registers request) m) m m'
    → (run (scalable_rules registers request) m' ≡ run (scalable_rules registers request) m)
    × (scalable_place registers request m' ≡ scalable_place registers request m)

-- Every bit by host address is as it came, or one of the flags that the answer comes with.
abbrev pub ScalableSetsExactly : Type 0
ScalableSetsExactly =
    (registers : ScalableRegisters) (request : ScalableRequest) (windows bytes : List ℕ) (n : ℕ)
    → bit_at windows (scalable_written registers request windows bytes) n
    ≡ (bit_at windows bytes n || is_shown windows (n / 8) && among n (scalable_decision registers request windows bytes).flags)

-- Only a granted request writes: any other leaves every byte.
abbrev pub ScalableLeavesAll : Type 0
ScalableLeavesAll =
    (registers : ScalableRegisters) (request : ScalableRequest) (windows bytes : List ℕ)
    → ((address : ℕ) → scalable_answer registers request windows bytes ≡ granted address → ⊥)
    → scalable_written registers request windows bytes ≡ bytes
