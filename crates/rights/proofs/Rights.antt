-- Demand 3 on rights in scalable mode, from the law over trees.
use Prim.Native.Nat.{ℕ, ◌%◌}
use mathlib.Core.Bool.{true, false}
use mathlib.Core.List.{List, Memᴰ}
use mathlib.Core.Path.{◌≡◌, sym}
use native.Mathlib.Omega.{arith}
use Rattle.image.specs.Memory.{Memory}
use Rattle.dma.specs.Isolation.{Switched}
use Rattle.dma.proofs.Raised.{Raised}
use Rattle.dma.proofs.Rights.{words, flipped}
use Rattle.pasid.specs.declared.ScalableRegisters.{ScalableRegisters}
use Rattle.scalable.specs.Requests.{scalable_rules}
use Rattle.scalable.specs.declared.ScalableRequest.{ScalableRequest}
use Rattle.rights.specs.Rights.{walked_by_any, Apart, ScalableRightsOn, ScalableRightsOff}
use Rattle.rights.specs.Tables.{table_words}
use Rattle.rights.proofs.Kept.{kept_run}
use Rattle.rights.proofs.Requests.{DecisionKept, DecisionDead, decision-all, request-kept}

-- a word of the tables isn't switched
module _ {turned : ℕ → ℕ → Type 0} (r : ScalableRegisters) (walkers : List ScalableRequest) (q : ScalableRequest) (m m' : Memory)
    (apart : Apart r walkers q m) (switched : Switched turned (walked_by_any r walkers m) m m') where
  tables : (w : ℕ) → w % 8 ≡ 0 → Memᴰ w (table_words (scalable_rules r q) m) → m' w ≡ m w
  tables w aligned is =
      switched.elsewhere w aligned (λ walked. apart w w walked is w (omega arith) (omega arith) (omega arith) (omega arith))

pub scalable-rights-on : ScalableRightsOn
scalable-rights-on r walkers q m m' apart on =
    kept_run Raised m m' (words (λ x. omega arith) (walked_by_any r walkers m) m m' on) DecisionKept DecisionDead decision-all true (scalable_rules r q)
    (scalable_rules r q) (request-kept r q) (λ w aligned is. sym (tables r walkers q m m' apart on w aligned is))

pub scalable-rights-off : ScalableRightsOff
scalable-rights-off r walkers q m m' apart off denied address was =
    let same =
    kept_run Raised m' m (λ a aligned. flipped (m a) (m' a) (words (λ x. omega arith) (walked_by_any r walkers m) m m' off a aligned)) DecisionKept
    DecisionDead decision-all false (scalable_rules r q) (scalable_rules r q) (request-kept r q)
    (λ w aligned is. tables r walkers q m m' apart off w aligned is) address was
    in
    denied address (rw same was)
