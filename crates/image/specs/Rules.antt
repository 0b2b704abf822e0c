-- A request's rules: a tree whose forks are fetches and whose leaves are answers. One tree gives the answer, the named
-- words and the entries that a request read, so no two of them can disagree.
use Rattle.std.specs.Prelude.{◌≡◌, ℕ, zero, suc, ◌+◌, Bool, List, [], ◌∷◌, ◌++◌}
use Rattle.std.specs.Prelude.{if◌then◌else◌}
use Rattle.image.specs.EntryKind.{EntryKind, words_of}
use Rattle.image.specs.Memory.{Memory, entry, on_fetch}

pub data Rules (A : Type 0) : Type 0 where
  -- no more is read: this is the answer
  answer : A → Rules A
  -- read an entry of a kind at an address: the answer where it can't be fetched, and what follows where it can
  fetch : (kind : EntryKind) (at : ℕ) → A → (ℕ → Rules A) → Rules A

-- the addresses of so many words from at
unfoldable pub words_from : ℕ → ℕ → List ℕ
words_from zero at = []
words_from (suc n) at = at ∷ words_from n (at + 8)

module _ {A : Type 0} where
  -- the answer that the rules give over a memory
  unfoldable pub run : Rules A → Memory → A
  run (answer a) m = a
  run (fetch kind at outside next) m = on_fetch (entry (words_of kind) m at) outside (λ e. run (next e) m)

  -- document 01's named words: the words that the rules read over a memory, in order, those of the entries that could be fetched
  unfoldable pub named : Rules A → Memory → List ℕ
  named (answer a) m = []
  named (fetch kind at outside next) m =
      on_fetch (entry (words_of kind) m at) [] (λ e. words_from (words_of kind) at ++ named (next e) m)

  -- the addresses of the fetched entries of the chosen kinds
  unfoldable pub entries_of : (EntryKind → Bool) → Rules A → Memory → List ℕ
  entries_of chosen (answer a) m = []
  entries_of chosen (fetch kind at outside next) m =
      on_fetch (entry (words_of kind) m at) []
      (λ e. (if chosen kind then at ∷ [] else []) ++ entries_of chosen (next e) m)

-- the same rules with each answer told otherwise
unfoldable pub map_rules : {A B : Type 0} → (A → B) → Rules A → Rules B
map_rules f (answer a) = answer (f a)
map_rules f (fetch kind at outside next) = fetch kind at (f outside) (λ e. map_rules f (next e))

-- two memories have the same in each of these words; one that neither has counts as the same, but a named word is always there
unfoldable pub SameIn : List ℕ → Memory → Memory → Type 0
SameIn [] m m' = Unit {0}
SameIn (a ∷ rest) m m' = (m a ≡ m' a) × SameIn rest m m'
