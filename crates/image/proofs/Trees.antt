-- Laws that hold of every rules tree.
use Rattle.std.proofs.Common.{◌≡◌, ℕ, Bool, true, false, List, [], ◌∷◌, ◌++◌, refl, ap}
use Rattle.std.specs.Prelude.{if◌then◌else◌}
use Rattle.image.specs.EntryKind.{EntryKind, words_of}
use Rattle.image.specs.Memory.{Memory, Fetched, missing, found, entry, on_fetch}
use Rattle.image.specs.Rules.{Rules, answer, fetch, run, entries_of, map_rules}

module _ {A : Type 0} where
  -- every entry that the rules read over a memory could be fetched
  unfoldable pub Complete : Rules A → Memory → Type 0
  Complete (answer a) m = Unit {0}
  Complete (fetch kind at outside next) m = on_fetch (entry (words_of kind) m at) ⊥ (λ e. Complete (next e) m)

  -- every answer of the rules to an entry that couldn't be fetched is of this kind
  unfoldable pub Outside : (A → Type 0) → Rules A → Type 0
  Outside Kind (answer a) = Unit {0}
  Outside Kind (fetch kind at outside next) = Kind outside × ((e : ℕ) → Outside Kind (next e))

-- telling each answer otherwise changes the answer alone
module _ {A B : Type 0} (f : A → B) where
  pub run-map : (q : Rules A) (m : Memory) → run (map_rules f q) m ≡ f (run q m)
  unfolding run map_rules
  run-map (answer a) m = refl
  run-map (fetch kind at outside next) m = go (entry (words_of kind) m at) (λ e. run-map (next e) m)
    where
      go : (x : Fetched) → ((e : ℕ) → run (map_rules f (next e)) m ≡ f (run (next e) m))
          → on_fetch x (f outside) (λ e. run (map_rules f (next e)) m) ≡ f (on_fetch x outside (λ e. run (next e) m))
      go missing ih = refl
      go (found e) ih = ih e

  pub outside-map : (Kind : B → Type 0) (q : Rules A) → Outside (λ a. Kind (f a)) q → Outside Kind (map_rules f q)
  unfolding Outside map_rules
  outside-map Kind (answer a) h = tt
  outside-map Kind (fetch kind at outside next) h = (h.0, λ e. outside-map Kind (next e) (h.1 e))

module _ {A : Type 0} (Kind : A → Type 0) where
  -- rules that answer otherwise than to a missing entry had every entry
  pub met : (q : Rules A) (m : Memory) → Outside Kind q → (Kind (run q m) → ⊥) → Complete q m
  unfolding Outside run Complete
  met (answer a) m o h = tt
  met (fetch kind at outside next) m o h = go (entry (words_of kind) m at) h (λ e. met (next e) m (o.1 e))
    where
      go : (x : Fetched) → (Kind (on_fetch x outside (λ e. run (next e) m)) → ⊥)
          → ((e : ℕ) → (Kind (run (next e) m) → ⊥) → Complete (next e) m)
          → on_fetch x ⊥ (λ e. Complete (next e) m)
      go missing h ih = absurd (h o.0)
      go (found e) h ih = ih e h

  pub outside-if : (t : Bool) (p q : Rules A) → Outside Kind p → Outside Kind q → Outside Kind (if t then p else q)
  outside-if true p q x y = x
  outside-if false p q x y = y

-- the entries that a request read don't depend on how its answers are told
pub entries-map : {A B : Type 0} (f : A → B) (chosen : EntryKind → Bool) (q : Rules A) (m : Memory) → entries_of chosen (map_rules f q) m ≡ entries_of chosen q m
unfolding entries_of map_rules
entries-map f chosen (answer a) m = refl
entries-map f chosen (fetch kind at outside next) m = go (entry (words_of kind) m at) (λ e. entries-map f chosen (next e) m)
  where
    go : (x : Fetched) → ((e : ℕ) → entries_of chosen (map_rules f (next e)) m ≡ entries_of chosen (next e) m)
        → on_fetch x [] (λ e. (if chosen kind then at ∷ [] else []) ++ entries_of chosen (map_rules f (next e)) m)
        ≡ on_fetch x [] (λ e. (if chosen kind then at ∷ [] else []) ++ entries_of chosen (next e) m)
    go missing ih = refl
    go (found e) ih = ap (λ (l : List ℕ). (if chosen kind then at ∷ [] else []) ++ l) (ih e)
