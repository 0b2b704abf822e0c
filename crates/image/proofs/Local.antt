-- What the rules answer is settled by the words that they name.
use Rattle.std.proofs.Common.{◌≡◌, ℕ, zero, suc, ◌+◌, List, [], ◌∷◌, ◌++◌, refl}
use Rattle.image.specs.EntryKind.{words_of}
use Rattle.image.specs.Memory.{Memory, Fetched, missing, found, entry, on_fetch}
use Rattle.image.specs.Rules.{Rules, answer, fetch, run, named, words_from, SameIn}
use Rattle.image.proofs.Trees.{Complete}

pub alike-left : (xs ys : List ℕ) (m m' : Memory) → SameIn (xs ++ ys) m m' → SameIn xs m m'
unfolding SameIn
alike-left [] ys m m' h = tt
alike-left (a ∷ xs) ys m m' h = (h.0, alike-left xs ys m m' h.1)

pub alike_right : (xs ys : List ℕ) (m m' : Memory) → SameIn (xs ++ ys) m m' → SameIn ys m m'
unfolding SameIn
alike_right [] ys m m' h = h
alike_right (a ∷ xs) ys m m' h = alike_right xs ys m m' h.1

-- an entry of any width is settled by its words
pub entry-alike : (n at : ℕ) (m m' : Memory) → SameIn (words_from n at) m m' → entry n m at ≡ entry n m' at
unfolding SameIn words_from entry
entry-alike zero at m m' h = refl
entry-alike (suc n) at m m' h = rw (h.0, entry-alike n (at + 8) m m' h.1)

module _ {A : Type 0} where
  pub local : (q : Rules A) (m m' : Memory) → Complete q m → SameIn (named q m) m m' → run q m ≡ run q m'
  unfolding run named Complete
  local (answer a) m m' c h = refl
  local (fetch kind at outside next) m m' c h = go (entry (words_of kind) m at) refl c h (λ x. local (next x) m m')
    where
      go : (f : Fetched) → entry (words_of kind) m at ≡ f
          → on_fetch f ⊥ (λ e. Complete (next e) m)
          → SameIn (on_fetch f [] (λ e. words_from (words_of kind) at ++ named (next e) m)) m m'
          → ((x : ℕ) → Complete (next x) m → SameIn (named (next x) m) m m' → run (next x) m ≡ run (next x) m')
          → on_fetch f outside (λ e. run (next e) m) ≡ run (fetch kind at outside next) m'
      go missing e c h ih = absurd c
      go (found x) e c h ih =
          let same = entry-alike (words_of kind) at m m' (alike-left (words_from (words_of kind) at) (named (next x) m) m m' h) in
          rw (← same, e) (ih x c (alike_right (words_from (words_of kind) at) (named (next x) m) m m' h))
