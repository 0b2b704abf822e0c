-- Demand 3 for requests in scalable mode (document 02, asks 9 and 14): over any two lent memories with windows that aren't refused, compared by
-- host address, as unit/specs/Isolation.antt has it for legacy ones. It speaks of the answer and of the bits written: a decision is both.
use Rattle.std.specs.Prelude.{ℕ, ◌≤◌, false, List, ◌≡◌}
use Rattle.image.specs.Place.{Place}
use Rattle.image.specs.Rules.{named}
use Rattle.dma.specs.Requests.{granted}
use Rattle.pasid.specs.declared.ScalableRegisters.{ScalableRegisters}
use Rattle.scalable.specs.Isolation.{access_fault}
use Rattle.scalable.specs.Requests.{Decision, scalable_rules, scalable_decision, scalable_answer_place}
use Rattle.scalable.specs.declared.ScalableRequest.{ScalableRequest}
use Rattle.rights.specs.Rights.{walked_by_any, Apart}
use Rattle.unit.specs.Lent.{Lent, memory_of, SameWordsAt, SwitchedAt, ShowsAll}

abbrev pub decided_over : ScalableRegisters → ScalableRequest → Lent → Decision
decided_over registers request l = scalable_decision registers request l.windows l.bytes

abbrev pub place_over : ScalableRegisters → ScalableRequest → Lent → Place
place_over registers request l = scalable_answer_place registers request l.windows l.bytes

pub record ScalableIsolation : Type 0 where
  -- a request that doesn't end in an access fault gets the same answer, its entry concerned too, and writes the same bits over a second memory
  -- alike in its named words
  pub alike : (registers : ScalableRegisters) (request : ScalableRequest) (l l' : Lent)
      → access_fault (decided_over registers request l).outcome ≡ false
      → SameWordsAt l l' (named (scalable_rules registers request) (memory_of l))
      → (decided_over registers request l' ≡ decided_over registers request l) × (place_over registers request l' ≡ place_over registers request l)
  -- so more memory never takes back a grant, nor changes what it writes
  pub more-memory : (registers : ScalableRegisters) (request : ScalableRequest) (l l' : Lent) (address : ℕ)
      → ShowsAll l l'
      → (decided_over registers request l).outcome ≡ granted address
      → decided_over registers request l' ≡ decided_over registers request l
  -- whichever of the first-level and second-level entries that any requests walked have read, write or both switched on, a granted request stays
  -- granted, with the same host address and bits written; where none of them shares a byte with its root, context, directory or table entry
  pub rights-on : (registers : ScalableRegisters) (walkers : List ScalableRequest) (request : ScalableRequest) (l l' : Lent)
      → Apart registers walkers request (memory_of l)
      → SwitchedAt (λ before after. before ≤ after) (walked_by_any registers walkers (memory_of l)) l l'
      → (address : ℕ) → (decided_over registers request l).outcome ≡ granted address
      → decided_over registers request l' ≡ decided_over registers request l
  -- whichever of them have either or both switched off, with the same proviso, a request that was blocked or refused isn't granted
  pub rights-off : (registers : ScalableRegisters) (walkers : List ScalableRequest) (request : ScalableRequest) (l l' : Lent)
      → Apart registers walkers request (memory_of l)
      → SwitchedAt (λ before after. after ≤ before) (walked_by_any registers walkers (memory_of l)) l l'
      → ((address : ℕ) → (decided_over registers request l).outcome ≡ granted address → ⊥)
      → (address : ℕ) → (decided_over registers request l').outcome ≡ granted address
      → ⊥
