-- One law of a rules tree: what every fork of it satisfies and what every answer does, and how many words a request may still read.
-- What a request names, reads and answers follows from it.
use Rattle.std.proofs.Common.{◌≡◌, ℕ, zero, suc, ◌+◌, ◌-◌, ◌≤◌, Bool, true, false, List, [], ◌∷◌, ◌++◌, length, refl, ap, ⊎_elim, arith, length-append}
use mathlib.Core.List.Memᴰ
use mathlib.Core.List.{Memᴰ}
use Rattle.std.specs.Prelude.{if◌then◌else◌}
use Rattle.image.specs.EntryKind.{EntryKind, words_of}
use Rattle.image.specs.Memory.{Memory, Fetched, missing, found, entry, on_fetch}
use Rattle.image.specs.Rules.{Rules, answer, fetch, run, named, entries_of, map_rules, words_from}
use Rattle.image.proofs.Trees.{Outside}

-- every fork is so, by its entry's kind and place and by what it answers where the entry can't be fetched; every other answer is so; and
-- no way through the rules reads more than so many words
unfoldable pub Every : {A : Type 0} → (EntryKind → ℕ → A → Type 0) → (A → Type 0) → ℕ → Rules A → Type 0
Every Fork Ends most (answer a) = Ends a
Every Fork Ends most (fetch kind at outside next) =
    (words_of kind ≤ most) × Fork kind at outside × ((e : ℕ) → Every Fork Ends (most - words_of kind) (next e))

module _ {A : Type 0} (Fork : EntryKind → ℕ → A → Type 0) (Ends : A → Type 0) where
  pub every-answer : (most : ℕ) (a : A) → Ends a → Every Fork Ends most (answer a)
  unfolding Every
  every-answer most a h = h

  pub every-fetch : (most rest : ℕ) (kind : EntryKind) (at : ℕ) (outside : A) (next : ℕ → Rules A)
      → most ≡ words_of kind + rest → Fork kind at outside → ((e : ℕ) → Every Fork Ends rest (next e))
      → Every Fork Ends most (fetch kind at outside next)
  unfolding Every
  every-fetch most rest kind at outside next is fork after =
      let left : most - words_of kind ≡ rest = omega arith in
      (omega arith, fork, rw left after)

  -- fewer words than allowed
  pub every_more : (least most : ℕ) (q : Rules A) → least ≤ most → Every Fork Ends least q → Every Fork Ends most q
  unfolding Every
  every_more least most (answer a) h is = is
  every_more least most (fetch kind at outside next) h is =
      let fits = is.0 in
      (omega arith, is.1, λ e. every_more (least - words_of kind) (most - words_of kind) (next e) (omega arith) (is.2 e))

  -- what follows of each answer
  pub every-run : ((kind : EntryKind) (at : ℕ) (a : A) → Fork kind at a → Ends a)
      → (most : ℕ) (q : Rules A) (m : Memory) → Every Fork Ends most q → Ends (run q m)
  unfolding Every run
  every-run ends most (answer a) m is = is
  every-run ends most (fetch kind at outside next) m is =
      go (entry (words_of kind) m at) (λ e. every-run ends (most - words_of kind) (next e) m (is.2 e))
    where
      go : (f : Fetched) → ((e : ℕ) → Ends (run (next e) m)) → Ends (on_fetch f outside (λ e. run (next e) m))
      go missing ih = ends kind at outside is.1
      go (found e) ih = ih e

  -- of each answer to an entry that can't be fetched
  pub every-outside : (Kind : A → Type 0) → ((kind : EntryKind) (at : ℕ) (a : A) → Fork kind at a → Kind a)
      → (most : ℕ) (q : Rules A) → Every Fork Ends most q → Outside Kind q
  unfolding Every Outside
  every-outside Kind so most (answer a) is = tt
  every-outside Kind so most (fetch kind at outside next) is =
      (so kind at outside is.1, λ e. every-outside Kind so (most - words_of kind) (next e) (is.2 e))

  -- of the words that are named
  length-words : (n a : ℕ) → length (words_from n a) ≡ n
  unfolding words_from
  length-words zero a = refl
  length-words (suc n) a = ap suc (length-words n (a + 8))

  pub every-named : (most : ℕ) (q : Rules A) (m : Memory) → Every Fork Ends most q → length (named q m) ≤ most
  unfolding Every named
  every-named most (answer a) m is = omega arith
  every-named most (fetch kind at outside next) m is =
      go (entry (words_of kind) m at) (λ e. every-named (most - words_of kind) (next e) m (is.2 e))
    where
      go : (f : Fetched) → ((e : ℕ) → length (named (next e) m) ≤ most - words_of kind)
          → length (on_fetch f [] (λ e. words_from (words_of kind) at ++ named (next e) m)) ≤ most
      go missing ih = omega arith
      go (found e) ih =
          rw (length-append (words_from (words_of kind) at) (named (next e) m), length-words (words_of kind) at) (omega (arith, ih e, is.0))

  -- of the entries of chosen kinds that are read
  pub every-entry : (chosen : EntryKind → Bool) (Place : ℕ → Type 0)
      → ((kind : EntryKind) (at : ℕ) (a : A) → Fork kind at a → chosen kind ≡ true → Place at)
      → (most : ℕ) (q : Rules A) (m : Memory) (a : ℕ) → Every Fork Ends most q → Memᴰ a (entries_of chosen q m) → Place a
  unfolding Every entries_of
  every-entry chosen Place so most (answer b) m a is read = absurd (Memᴰ.not-nil read)
  every-entry chosen Place so most (fetch kind at outside next) m a is read =
      go (entry (words_of kind) m at) (λ e. every-entry chosen Place so (most - words_of kind) (next e) m a (is.2 e)) read
    where
      here : (t : Bool) → chosen kind ≡ t → (rest : List ℕ) → (Memᴰ a rest → Place a)
          → Memᴰ a ((if t then at ∷ [] else []) ++ rest) → Place a
      here true is-chosen rest ih read =
          ⊎_elim (λ same. rw same (so kind at outside is.1 is-chosen)) ih (Memᴰ.cases_cons read)
      here false not-Chosen rest ih read = ih read

      go : (f : Fetched) → ((e : ℕ) → Memᴰ a (entries_of chosen (next e) m) → Place a)
          → Memᴰ a (on_fetch f [] (λ e. (if chosen kind then at ∷ [] else []) ++ entries_of chosen (next e) m)) → Place a
      go missing ih read = absurd (Memᴰ.not-nil read)
      go (found e) ih read = here (chosen kind) refl (entries_of chosen (next e) m) (ih e) read

-- telling each answer otherwise
pub every_map : {A B : Type 0} (f : A → B) (Fork : EntryKind → ℕ → B → Type 0) (Ends : B → Type 0) (most : ℕ) (q : Rules A)
    → Every (λ kind at a. Fork kind at (f a)) (λ a. Ends (f a)) most q → Every Fork Ends most (map_rules f q)
unfolding Every map_rules
every_map f Fork Ends most (answer a) is = is
every_map f Fork Ends most (fetch kind at outside next) is =
    (is.0, is.1, λ e. every_map f Fork Ends (most - words_of kind) (next e) (is.2 e))

-- less may be asked
pub every-weaken : {A : Type 0} (Fork Fork' : EntryKind → ℕ → A → Type 0) (Ends Ends' : A → Type 0)
    → ((kind : EntryKind) (at : ℕ) (a : A) → Fork kind at a → Fork' kind at a) → ((a : A) → Ends a → Ends' a)
    → (most : ℕ) (q : Rules A) → Every Fork Ends most q → Every Fork' Ends' most q
unfolding Every
every-weaken Fork Fork' Ends Ends' fork ends most (answer a) is = ends a is
every-weaken Fork Fork' Ends Ends' fork ends most (fetch kind at outside next) is =
    (is.0, fork kind at outside is.1, λ e. every-weaken Fork Fork' Ends Ends' fork ends (most - words_of kind) (next e) (is.2 e))
