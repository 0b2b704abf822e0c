-- Laws of rules that go on with others.
use Prim.Native.Nat.{ℕ}
use mathlib.Core.Path.{◌≡◌, refl, ap, sym}
use Rattle.image.specs.EntryKind.{words_of}
use Rattle.image.specs.Memory.{Memory, Fetched, missing, found, entry, on_fetch}
use Rattle.image.specs.Place.{Place, entry_at, last_tried}
use Rattle.image.specs.Rules.{Rules, answer, fetch, run}
use Rattle.image.proofs.Trees.{Outside}
use Rattle.nested.specs.Then.{then_rules}

module _ {A B : Type 0} (ended : A → B) (next : A → Rules B) where
  -- an answer to an entry that can't be fetched is followed by nothing
  abbrev pub Ends : A → Type 0
  Ends a = next a ≡ answer (ended a)

  -- the answer of what follows the first answer
  pub run-then : (q : Rules A) (m : Memory) → Outside Ends q → run (then_rules ended next q) m ≡ run (next (run q m)) m
  unfolding run then_rules Outside
  run-then (answer a) m h = refl
  run-then (fetch kind at outside rest) m h = by (entry (words_of kind) m at) (λ e. run-then (rest e) m (h.1 e))
    where
      by : (f : Fetched) → ((e : ℕ) → run (then_rules ended next (rest e)) m ≡ run (next (run (rest e) m)) m)
          → on_fetch f (ended outside) (λ e. run (then_rules ended next (rest e)) m)
          ≡ run (next (on_fetch f outside (λ e. run (rest e) m))) m
      by missing ih = sym (ap (λ q. run q m) h.0)
      by (found e) ih = ih e

  -- it stops where what follows stops
  pub tried_then : (before : Place) (q : Rules A) (m : Memory) → Outside Ends q
      → last_tried before (then_rules ended next q) m ≡ last_tried (last_tried before q m) (next (run q m)) m
  unfolding run last_tried then_rules Outside
  tried_then before (answer a) m h = refl
  tried_then before (fetch kind at outside rest) m h = by (entry (words_of kind) m at) (λ e. tried_then (entry_at at) (rest e) m (h.1 e))
    where
      by : (f : Fetched)
          → ((e : ℕ) → last_tried (entry_at at) (then_rules ended next (rest e)) m ≡ last_tried (last_tried (entry_at at) (rest e) m) (next (run (rest e) m)) m)
          → on_fetch f (entry_at at) (λ e. last_tried (entry_at at) (then_rules ended next (rest e)) m)
          ≡ last_tried (on_fetch f (entry_at at) (λ e. last_tried (entry_at at) (rest e) m)) (next (on_fetch f outside (λ e. run (rest e) m))) m
      by missing ih = sym (ap (λ q. last_tried (entry_at at) q m) h.0)
      by (found e) ih = ih e
