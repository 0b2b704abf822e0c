-- Demand 3's claims on rights for reads and writes in scalable mode (document 02, ask 14), over any memory by host address. They speak of the
-- answer and of the bits written: a decision is both. Proved in proofs/Rights.antt.
use Rattle.std.specs.Prelude.{ℕ, ◌≡◌}
use mathlib.Core.List.{List, [], ◌∷◌, ◌++◌, Memᴰ}
use Rattle.image.specs.Alike.{Extends}
use Rattle.image.specs.Memory.{Memory}
use Rattle.image.specs.Rules.{run, entries_of}
use Rattle.dma.specs.Isolation.{SwitchedOn, SwitchedOff}
use Rattle.dma.specs.Requests.{granted}
use Rattle.pasid.specs.declared.ScalableRegisters.{ScalableRegisters}
use Rattle.scalable.specs.Requests.{Decision, scalable_rules}
use Rattle.scalable.specs.declared.ScalableRequest.{ScalableRequest}
use Rattle.rights.specs.Tables.{is_walked, table_words, SharesNoByte}

abbrev pub decided : ScalableRegisters → ScalableRequest → Memory → Decision
decided registers request = run (scalable_rules registers request)

-- the first-level and second-level entries that any number of requests, the walkers, walked, taken together; one that faults is included
unfoldable pub walked_by_any : ScalableRegisters → (walkers : List ScalableRequest) → Memory → List ℕ
walked_by_any registers [] m = []
walked_by_any registers (walker ∷ walkers) m = entries_of is_walked (scalable_rules registers walker) m ++ walked_by_any registers walkers m

-- none of them shares a byte with the request's root, context, PASID directory or PASID table entry
abbrev pub Apart : ScalableRegisters → (walkers : List ScalableRequest) (request : ScalableRequest) → Memory → Type 0
Apart registers walkers request m =
    (walked word : ℕ)
    → Memᴰ walked (walked_by_any registers walkers m)
    → Memᴰ word (table_words (scalable_rules registers request) m)
    → SharesNoByte walked word

-- More memory never takes back a grant: it keeps its host address and the bits written.
abbrev pub ScalableMoreMemory : Type 0
ScalableMoreMemory =
    (registers : ScalableRegisters) (request : ScalableRequest) (m m' : Memory) (address : ℕ)
    → Extends m m'
    → (decided registers request m).outcome ≡ granted address
    → decided registers request m' ≡ decided registers request m

-- Whichever of these entries have read (bit 0; in a first-level entry that is P), write (bit 1) or both switched on, a granted request stays
-- granted, with the same host address and the same bits written.
abbrev pub ScalableRightsOn : Type 0
ScalableRightsOn =
    (registers : ScalableRegisters) (walkers : List ScalableRequest) (request : ScalableRequest) (m m' : Memory)
    → Apart registers walkers request m
    → SwitchedOn (walked_by_any registers walkers m) m m'
    → (address : ℕ) → (decided registers request m).outcome ≡ granted address
    → decided registers request m' ≡ decided registers request m

-- Whichever of them have either or both switched off, a request that was blocked or refused isn't granted.
abbrev pub ScalableRightsOff : Type 0
ScalableRightsOff =
    (registers : ScalableRegisters) (walkers : List ScalableRequest) (request : ScalableRequest) (m m' : Memory)
    → Apart registers walkers request m
    → SwitchedOff (walked_by_any registers walkers m) m m'
    → ((address : ℕ) → (decided registers request m).outcome ≡ granted address → ⊥)
    → (address : ℕ) → (decided registers request m').outcome ≡ granted address
    → ⊥
