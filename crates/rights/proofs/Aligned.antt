-- The entries that requests walked are at multiples of 8.
use Prim.Native.Nat.{ℕ, ◌%◌}
use mathlib.Core.Bool.{Bool, true, false}
use mathlib.Core.List.Memᴰ
use mathlib.Core.List.{List, [], ◌∷◌, ◌++◌, Memᴰ}
use mathlib.Core.Logic.{⊎_elim}
use mathlib.Core.Path.{◌≡◌, refl}
use native.Mathlib.Omega.{arith}
use Rattle.std.specs.Prelude.{if◌then◌else◌}
use Rattle.image.specs.EntryKind.{EntryKind, words_of}
use Rattle.image.specs.Memory.{Memory, Fetched, missing, found, entry, on_fetch}
use Rattle.image.specs.Rules.{Rules, answer, fetch, entries_of}
use Rattle.dma.proofs.Raised.{Raised}
use Rattle.pasid.specs.declared.ScalableRegisters.{ScalableRegisters}
use Rattle.scalable.specs.Requests.{scalable_rules}
use Rattle.scalable.specs.declared.ScalableRequest.{ScalableRequest}
use Rattle.rights.specs.Rights.{walked_by_any}
use Rattle.rights.specs.Tables.{is_walked}
use Rattle.rights.proofs.Kept.{Entries, Keeps}
use Rattle.rights.proofs.Requests.{DecisionKept, DecisionDead, request-kept}

pub unswitched : (walked : Bool) (e : ℕ) → Entries Raised walked e e
unswitched true e = record { other-bits = refl; read = omega arith; write = omega arith }
unswitched false e = refl

module _ {A : Type 0} (Kept : A → A → Type 0) (Dead : A → Type 0) (chosen : EntryKind → Bool) (m : Memory) (a : ℕ) where
  aligned : (q : Rules A) → Keeps Raised Kept Dead q q → Memᴰ a (entries_of chosen q m) → a % 8 ≡ 0
  unfolding Keeps entries_of
  aligned (answer x) h is = absurd (Memᴰ.not-nil is)
  aligned (fetch kind at outside next) h is =
      by (entry (words_of kind) m at) (λ e. aligned (next e) (h.4 e e (unswitched (is_walked kind) e))) is
    where
      own : (here : Bool) → Memᴰ a (if here then at ∷ [] else []) → a % 8 ≡ 0
      own true is = rw (Memᴰ.eq_of_singleton is) h.2
      own false is = absurd (Memᴰ.not-nil is)

      by : (f : Fetched) → ((e : ℕ) → Memᴰ a (entries_of chosen (next e) m) → a % 8 ≡ 0)
          → Memᴰ a (on_fetch f [] (λ e. (if chosen kind then at ∷ [] else []) ++ entries_of chosen (next e) m)) → a % 8 ≡ 0
      by missing ih is = absurd (Memᴰ.not-nil is)
      by (found e) ih is = ⊎_elim (own (chosen kind)) (ih e) (Memᴰ.append_cases (if chosen kind then at ∷ [] else []) is)

pub aligned-walked : (r : ScalableRegisters) (walkers : List ScalableRequest) (m : Memory) (a : ℕ) → Memᴰ a (walked_by_any r walkers m) → a % 8 ≡ 0
unfolding walked_by_any
aligned-walked r [] m a is = absurd (Memᴰ.not-nil is)
aligned-walked r (walker ∷ walkers) m a is =
    ⊎_elim (aligned DecisionKept DecisionDead is_walked m a (scalable_rules r walker) (request-kept r walker)) (aligned-walked r walkers m a)
    (Memᴰ.append_cases _ is)
