-- What holds of every answer of rules, those to entries that can't be fetched apart: over maps, rules that go on with others, and walks.
use Prim.Native.Nat.{ℕ, zero, suc, ◌<◌}
use mathlib.Core.Bool.{Bool, true, false}
use native.Mathlib.Omega.{arith}
use Rattle.std.specs.Prelude.{if◌then◌else◌}
use Rattle.image.specs.EntryKind.{EntryKind, words_of}
use Rattle.image.specs.Memory.{Memory, Fetched, missing, found, entry, on_fetch}
use Rattle.image.specs.Rules.{Rules, answer, fetch, run, map_rules}
use Rattle.image.proofs.Unfetched.{Inside}
use Rattle.dma.specs.Walk.{Step, done, down, on_step, place_in, walk_rules}
use Rattle.nested.specs.Then.{then_rules}
use Rattle.nested.specs.Way.{Located, located, lost, on_located, entry_rules, ended, way_rules}

-- each answer to an entry that can't be fetched is so, and each other answer is so
unfoldable pub Told : {A : Type 0} → (Out Says : A → Type 0) → Rules A → Type 0
Told Out Says (answer a) = Says a
Told Out Says (fetch kind at outside next) = Out outside × ((e : ℕ) → Told Out Says (next e))

module _ {A : Type 0} (Out Says : A → Type 0) where
  pub told-answer : (a : A) → Says a → Told Out Says (answer a)
  unfolding Told
  told-answer a h = h

  pub told-fetch : (kind : EntryKind) (at : ℕ) (outside : A) (next : ℕ → Rules A) → Out outside → ((e : ℕ) → Told Out Says (next e))
      → Told Out Says (fetch kind at outside next)
  unfolding Told
  told-fetch kind at outside next out after = (out, after)

  pub told-if : (t : Bool) (p q : Rules A) → Told Out Says p → Told Out Says q → Told Out Says (if t then p else q)
  told-if true p q x y = x
  told-if false p q x y = y

  pub told-inside : (Kind : A → Type 0) → ((a : A) → Says a → Kind a → ⊥) → (q : Rules A) → Told Out Says q → Inside Kind q
  unfolding Told Inside
  told-inside Kind so (answer a) h = so a h
  told-inside Kind so (fetch kind at outside next) h = λ e. told-inside Kind so (next e) (h.1 e)

  pub told-run : (Is : A → Type 0) → ((a : A) → Out a → Is a) → ((a : A) → Says a → Is a) → (q : Rules A) (m : Memory) → Told Out Says q → Is (run q m)
  unfolding Told run
  told-run Is out says (answer a) m h = says a h
  told-run Is out says (fetch kind at outside next) m h =
      by (entry (words_of kind) m at) (λ e. told-run Is out says (next e) m (h.1 e))
    where
      by : (f : Fetched) → ((e : ℕ) → Is (run (next e) m)) → Is (on_fetch f outside (λ e. run (next e) m))
      by missing ih = out outside h.0
      by (found e) ih = ih e

pub told-map : {A B : Type 0} (f : A → B) (Out Says : A → Type 0) (Out' Says' : B → Type 0) → ((a : A) → Out a → Out' (f a)) → ((a : A) → Says a → Says' (f a))
    → (q : Rules A) → Told Out Says q → Told Out' Says' (map_rules f q)
unfolding Told map_rules
told-map f Out Says Out' Says' out says (answer a) h = says a h
told-map f Out Says Out' Says' out says (fetch kind at outside next) h =
    (out outside h.0, λ e. told-map f Out Says Out' Says' out says (next e) (h.1 e))

pub told-then : {A B : Type 0} (end : A → B) (next : A → Rules B) (Out Says : A → Type 0) (Out' Says' : B → Type 0) → ((a : A) → Out a → Out' (end a))
    → ((a : A) → Says a → Told Out' Says' (next a)) → (q : Rules A) → Told Out Says q → Told Out' Says' (then_rules end next q)
unfolding Told then_rules
told-then end next Out Says Out' Says' out says (answer a) h = says a h
told-then end next Out Says Out' Says' out says (fetch kind at outside rest) h =
    (out outside h.0, λ e. told-then end next Out Says Out' Says' out says (rest e) (h.1 e))

-- a step ends the walk with such an answer, or leads down to levels that there are
abbrev pub StepSays : {S A : Type 0} → (Says : A → Type 0) (below : ℕ) → Step S A → Type 0
StepSays Says below (done a) = Says a
StepSays Says below (down table s) = 0 < below

pub step-if : {S A : Type 0} (Says : A → Type 0) (below : ℕ) (t : Bool) (x y : Step S A) → StepSays Says below x → StepSays Says below y
    → StepSays Says below (if t then x else y)
step-if Says below true x y h k = h
step-if Says below false x y h k = k

module _ {S A : Type 0} (Out Says : A → Type 0) (address : ℕ) (none : S → A) (step : (level place : ℕ) → S → (e : ℕ) → Step S A)
    (out : (s : S) → Out (none s)) (says : (n place : ℕ) (s : S) (e : ℕ) → StepSays Says n (step (suc n) place s e)) where
  after-step : (n : ℕ) (below : (table : ℕ) → S → Rules A) (x : Step S A) → StepSays Says n x → ((table : ℕ) (s : S) → 0 < n → Told Out Says (below table s))
      → Told Out Says (on_step x answer below)
  after-step n below (done a) h ih = told-answer Out Says a h
  after-step n below (down table s) h ih = ih table s h

  pub told-walk : (level table : ℕ) (s : S) → 0 < level → Told Out Says (walk_rules address none step level table s)
  unfolding walk_rules
  told-walk zero table s some = absurd (omega arith)
  told-walk (suc n) table s some =
      told-fetch Out Says _ _ _ _ (out s)
      (λ e.
      after-step n (walk_rules address none step n) (step (suc n) (place_in address table n) s e) (says n (place_in address table n) s e)
      (λ table s. told-walk n table s))

  module _ (kind : EntryKind) (find : S → (place : ℕ) → Rules (Located S A)) where
    abbrev pub OutWay : Located S A → Type 0
    OutWay (located place s) = ⊥
    OutWay (lost a) = Out a

    abbrev pub SaysWay : Located S A → Type 0
    SaysWay (located place s) = Unit {0}
    SaysWay (lost a) = Says a

    pub told-way : ((s : S) (place : ℕ) → Told OutWay SaysWay (find s place)) → (level table : ℕ) (s : S) → 0 < level
        → Told Out Says (way_rules kind address find none step level table s)
    unfolding way_rules
    told-way finds zero table s some = absurd (omega arith)
    told-way finds (suc n) table s some =
        told-then (ended kind address find none step) next OutWay SaysWay Out Says end (λ l h. after l h (told-way finds n)) (find s (place_in address table n))
        (finds s (place_in address table n))
      where
        next : Located S A → Rules A
        next l = on_located l answer (entry_rules kind address find none step (suc n) (way_rules kind address find none step n))

        end : (l : Located S A) → OutWay l → Out (ended kind address find none step l)
        end (located place s) h = absurd h
        end (lost a) h = h

        after : (l : Located S A) → SaysWay l → ((table : ℕ) (s : S) → 0 < n → Told Out Says (way_rules kind address find none step n table s))
            → Told Out Says (next l)
        after (located place t) h ih =
            told-fetch Out Says _ _ _ _ (out t)
            (λ e. after-step n (way_rules kind address find none step n) (step (suc n) place t e) (says n place t e) ih)
        after (lost a) h ih = told-answer Out Says a h
