-- More memory: what a request names over a memory is the same in one that has all its words and more.
use Prim.Native.Nat.{ℕ, ◌%◌}
use mathlib.Core.List.{List, [], ◌∷◌, ◌++◌}
use mathlib.Core.Path.{◌≡◌, refl}
use native.Mathlib.Omega.{arith}
use Rattle.image.specs.Alike.{Extends}
use Rattle.image.specs.EntryKind.{EntryKind, words_of}
use Rattle.image.specs.Memory.{Memory, Fetched, missing, found, entry, on_fetch}
use Rattle.image.specs.Rules.{Rules, answer, fetch, named, words_from, SameIn}
use Rattle.image.proofs.Forks.{every-answer, every-fetch}
use Rattle.image.proofs.Longer.{extended}
use Rattle.dma.proofs.Raised.{Raised}
use Rattle.scalable.specs.Requests.{scalable_rules}
use Rattle.scalable.proofs.Isolation.{scalable-locality}
use Rattle.rights.specs.Rights.{ScalableMoreMemory}
use Rattle.rights.specs.Tables.{is_walked}
use Rattle.rights.proofs.Aligned.{unswitched}
use Rattle.rights.proofs.Kept.{Keeps}
use Rattle.rights.proofs.Requests.{DecisionKept, DecisionDead, request-kept}

module _ (m m' : Memory) (more : Extends m m') where
  -- the words of one entry that is fetched: rules that read it alone
  own : (kind : EntryKind) (at : ℕ) {e : ℕ} → at % 8 ≡ 0 → entry (words_of kind) m at ≡ found e → SameIn (words_from (words_of kind) at ++ []) m m'
  unfolding named
  own kind at aligned there =
      rw there at
      (extended m m' more {A = Unit {0}} (λ k place x. place % 8 ≡ 0) (λ x. Unit {0}) (λ k place x h. h) (words_of kind) (fetch kind at tt (λ e. answer tt))
      (every-fetch (λ k place x. place % 8 ≡ 0) (λ x. Unit {0}) (words_of kind) 0 kind at tt (λ e. answer tt) (omega arith) aligned
      (λ e. every-answer (λ k place x. place % 8 ≡ 0) (λ x. Unit {0}) 0 tt tt)))

  joined : (xs ys : List ℕ) → SameIn (xs ++ []) m m' → SameIn ys m m' → SameIn (xs ++ ys) m m'
  unfolding SameIn
  joined [] ys first rest = rest
  joined (x ∷ xs) ys first rest = (first.0, joined xs ys first.1 rest)

  same-named : {A : Type 0} (Kept : A → A → Type 0) (Dead : A → Type 0) (q : Rules A) → Keeps Raised Kept Dead q q → SameIn (named q m) m m'
  unfolding Keeps named SameIn
  same-named Kept Dead (answer a) h = tt
  same-named Kept Dead (fetch kind at outside next) h =
      by (entry (words_of kind) m at) refl (λ e. same-named Kept Dead (next e) (h.4 e e (unswitched (is_walked kind) e)))
    where
      by : (f : Fetched) → entry (words_of kind) m at ≡ f → ((e : ℕ) → SameIn (named (next e) m) m m')
          → SameIn (on_fetch f [] (λ e. words_from (words_of kind) at ++ named (next e) m)) m m'
      by missing told ih = tt
      by (found e) told ih = joined (words_from (words_of kind) at) (named (next e) m) (own kind at h.2 told) (ih e)

pub scalable-more-memory : ScalableMoreMemory
scalable-more-memory r q m m' address more was =
    (scalable-locality r q m m' (rw was) (same-named m m' more DecisionKept DecisionDead (scalable_rules r q) (request-kept r q))).0
