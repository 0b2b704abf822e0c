-- The customer's demand 3 for memory requests: the statements. Their proofs are in proofs/. Each speaks of a whole request,
-- from registers to answer, for any registers, any memory by host address and any request.
use Rattle.std.specs.Prelude.{ℕ, ◌+◌, ◌≤◌, ◌<◌, ◌/◌, ◌%◌, Bool, true, false, ◌||◌, ◌≡◌, ◌⊎◌, eqb}
use mathlib.Core.List.{List, [], ◌∷◌, ◌++◌, Memᴰ}
use Rattle.image.specs.Bits.{bits}
use Rattle.image.specs.Memory.{Memory, Fetched, missing, found}
use Rattle.image.specs.Place.{no_entry}
use Rattle.image.specs.Rules.{run, named, SameIn}
use Rattle.image.specs.Unfetched.{EndsUnfetched}
use Rattle.registers.specs.declared.Registers.{Registers}
use Rattle.faults.specs.Record.{FaultAnswer}
use Rattle.dma.specs.Requests.{MemoryOutcome, granted, blocked, refused, memory_rules, memory_place, walked, table_entries}
use Rattle.dma.specs.declared.MemoryRequest.{MemoryRequest}

-- the answer that document 01's rules give over a memory
abbrev pub answer_over : Registers → MemoryRequest → Memory → MemoryOutcome
answer_over registers request = run (memory_rules registers request)

-- 07h, 08h and 09h
abbrev pub access_reason : (reason : ℕ) → Bool
access_reason reason = eqb reason 0x07 || eqb reason 0x08 || eqb reason 0x09

abbrev pub access_fault : MemoryOutcome → Bool
access_fault (granted address) = false
access_fault (blocked fault) = access_reason fault.reason
access_fault (refused number) = false

-- 1. Over a second memory alike in the words that a request names, the same request under the same registers gets the same
-- answer, the entry concerned among its parts, whatever else that memory holds, unless it ended in an access fault.
abbrev pub Locality : Type 0
Locality =
    (registers : Registers) (request : MemoryRequest) (m m' : Memory)
    → access_fault (answer_over registers request m) ≡ false
    → SameIn (named (memory_rules registers request) m) m m'
    → (answer_over registers request m' ≡ answer_over registers request m)
    × (memory_place registers request m' ≡ memory_place registers request m)

-- A blocked memory request always has an entry concerned: its root entry was tried, if no other.
abbrev pub AlwaysAnEntry : Type 0
AlwaysAnEntry =
    (registers : Registers) (request : MemoryRequest) (m : Memory) (f : FaultAnswer)
    → answer_over registers request m ≡ blocked f
    → memory_place registers request m ≡ no_entry → ⊥

-- The exception is no wider than the demand's words: an access fault means an entry that couldn't be fetched, which isn't whole in
-- the memory.
abbrev pub AccessMeansUnfetched : Type 0
AccessMeansUnfetched =
    (registers : Registers) (request : MemoryRequest) (m : Memory)
    → access_fault (answer_over registers request m) ≡ true
    → EndsUnfetched (memory_rules registers request) m

-- An entry of 8 bytes shares no byte with one of 16.
abbrev pub Disjoint : (page table : ℕ) → Type 0
Disjoint page table = (page + 8 ≤ table) ⊎ (table + 16 ≤ page)

-- So are two that share none: the claims' premise is no stronger than the demand's words.
abbrev pub Unshared : Type 0
Unshared =
    (page table : ℕ)
    → ((n : ℕ) → page ≤ n → n < page + 8 → table ≤ n → n < table + 16 → ⊥)
    → Disjoint page table

-- The page entries that any number of requests, the walkers, walked, taken together: one walker is a list of one. One that faults is
-- included.
unfoldable pub walked_by_any : Registers → (walkers : List MemoryRequest) → Memory → List ℕ
walked_by_any registers [] m = []
walked_by_any registers (walker ∷ walkers) m = walked registers walker m ++ walked_by_any registers walkers m

-- No entry that a walker walked shares a byte with the request's root or context entry.
abbrev pub Apart : Registers → (walkers : List MemoryRequest) (request : MemoryRequest) → Memory → Type 0
Apart registers walkers request m =
    (page table : ℕ)
    → Memᴰ page (walked_by_any registers walkers m)
    → Memᴰ table (table_entries registers request m)
    → Disjoint page table

-- A page entry switched in any of its bits 0 (read) and 1 (write); turned a b says how one of the two may go from a to b.
pub record SwitchedEntry (turned : ℕ → ℕ → Type 0) (e e' : ℕ) : Type 0 where
  pub other-bits : e' / 4 ≡ e / 4
  pub read : turned (bits e 0 0) (bits e' 0 0)
  pub write : turned (bits e 1 1) (bits e' 1 1)

-- two fetches find nothing, or two entries so related
abbrev pub BothFetched : (ℕ → ℕ → Type 0) → Fetched → Fetched → Type 0
BothFetched R missing missing = Unit {0}
BothFetched R missing (found e') = ⊥
BothFetched R (found e) missing = ⊥
BothFetched R (found e) (found e') = R e e'

-- m' is m with some of these entries switched, and no other word changed. All words that requests read are at multiples of 8.
pub record Switched (turned : ℕ → ℕ → Type 0) (entries : List ℕ) (m m' : Memory) : Type 0 where
  pub elsewhere : (n : ℕ) → n % 8 ≡ 0 → (Memᴰ n entries → ⊥) → m' n ≡ m n
  pub switched : (n : ℕ) → Memᴰ n entries → BothFetched (SwitchedEntry turned) (m n) (m' n)

-- switched only on, or only off
abbrev pub SwitchedOn : (entries : List ℕ) (m m' : Memory) → Type 0
SwitchedOn = Switched (λ before after. before ≤ after)

abbrev pub SwitchedOff : (entries : List ℕ) (m m' : Memory) → Type 0
SwitchedOff = Switched (λ before after. after ≤ before)

-- 2. Whichever of the entries that any memory requests, the walkers, walked have read, write or both switched on, a granted request
-- stays granted, with the same host address: a walker itself, and any other request. A walker may have been granted, blocked, by an
-- access fault too, or refused.
abbrev pub RightsOn : Type 0
RightsOn =
    (registers : Registers) (walkers : List MemoryRequest) (request : MemoryRequest) (m m' : Memory)
    → Apart registers walkers request m
    → SwitchedOn (walked_by_any registers walkers m) m m'
    → (address : ℕ) → answer_over registers request m ≡ granted address
    → answer_over registers request m' ≡ granted address

-- 3. Whichever of them have either or both switched off, a request that was blocked or refused isn't granted.
abbrev pub RightsOff : Type 0
RightsOff =
    (registers : Registers) (walkers : List MemoryRequest) (request : MemoryRequest) (m m' : Memory)
    → Apart registers walkers request m
    → SwitchedOff (walked_by_any registers walkers m) m m'
    → ((address : ℕ) → answer_over registers request m ≡ granted address → ⊥)
    → (address : ℕ) → answer_over registers request m' ≡ granted address
    → ⊥
