-- What the rules answer is settled by the words that they try to read: a row over a long image is computed over a few of its words.
use Prim.Native.Nat.{ℕ, ◌+◌}
use mathlib.Core.Bool.{Bool, true, false}
use mathlib.Core.List.{List, [], ◌∷◌, ◌++◌}
use mathlib.Core.Path.{◌≡◌, refl, ap, sym, ◌∙◌}
use native.Mathlib.Omega.{arith}
use borrow.Author.Tests.{eqb-true}
use lib.Dec.{leb, eqb}
use lib.ListN.{length}
use Rattle.std.specs.Prelude.{if◌then◌else◌}
use Rattle.image.specs.EntryKind.{words_of}
use Rattle.image.specs.Memory.{Memory, Fetched, missing, found, word_at, of_image, entry, on_fetch}
use Rattle.image.specs.Place.{Place, entry_at, last_tried}
use Rattle.image.specs.Rules.{Rules, answer, fetch, run, words_from, SameIn}
use Rattle.image.proofs.Local.{alike-left, alike_right, entry-alike}

module _ {A : Type 0} where
  -- the words that the rules try over a memory, in order, also those of an entry that can't be fetched
  unfoldable pub tried : Rules A → Memory → List ℕ
  tried (answer a) m = []
  tried (fetch kind at outside next) m =
      words_from (words_of kind) at ++ on_fetch (entry (words_of kind) m at) [] (λ e. tried (next e) m)

  pub settled : (q : Rules A) (before : Place) (m m' : Memory) → SameIn (tried q m) m m'
      → (run q m' ≡ run q m) × (last_tried before q m' ≡ last_tried before q m)
  unfolding tried run last_tried
  settled (answer a) before m m' h = (refl, refl)
  settled (fetch kind at outside next) before m m' h =
      let rest = on_fetch (entry (words_of kind) m at) [] (λ e. tried (next e) m) in
      let same = entry-alike (words_of kind) at m m' (alike-left (words_from (words_of kind) at) rest m m' h) in
      rw (← same)
      (by (entry (words_of kind) m at) (alike_right (words_from (words_of kind) at) rest m m' h) (λ x. settled (next x) (entry_at at) m m'))
    where
      by : (f : Fetched) → SameIn (on_fetch f [] (λ e. tried (next e) m)) m m'
          → ((x : ℕ) → SameIn (tried (next x) m) m m'
          → (run (next x) m' ≡ run (next x) m) × (last_tried (entry_at at) (next x) m' ≡ last_tried (entry_at at) (next x) m))
          → (on_fetch f outside (λ e. run (next e) m') ≡ on_fetch f outside (λ e. run (next e) m))
          × (on_fetch f (entry_at at) (λ e. last_tried (entry_at at) (next e) m') ≡ on_fetch f (entry_at at) (λ e. last_tried (entry_at at) (next e) m))
      by missing h ih = (refl, refl)
      by (found x) h ih = ih x h

-- what a memory shows in some words
unfoldable pub shown : Memory → List ℕ → List Fetched
shown m [] = []
shown m (at ∷ rest) = m at ∷ shown m rest

same-shown : (words : List ℕ) (m m' : Memory) → shown m words ≡ shown m' words → SameIn words m m'
unfolding shown SameIn
same-shown [] m m' h = tt
same-shown (at ∷ rest) m m' h =
    let first : m at ≡ m' at = cc in let others : shown m rest ≡ shown m' rest = cc in (first, same-shown rest m m' others)

-- an image of so many bytes as a memory, with its length told once
unfoldable pub sized : (n : ℕ) (image : List ℕ) → Memory
sized n image at = if leb (at + 8) n then found (word_at image at) else missing

pub same-sized : (image : List ℕ) (n : ℕ) → length image ≡ n → (words : List ℕ) (m : Memory)
    → shown m words ≡ shown (sized n image) words → SameIn words m (of_image image)
unfolding sized of_image
same-sized image n h words m e =
    same-shown words m (of_image image) (e ∙ ap (λ (k : ℕ). shown (sized k image) words) (sym h))

-- all of the first words are among the second
unfoldable pub is_among : ℕ → List ℕ → Bool
is_among at [] = false
is_among at (k ∷ known) = if eqb at k then true else is_among at known

unfoldable pub among : (words known : List ℕ) → Bool
among [] known = true
among (at ∷ rest) known = if is_among at known then among rest known else false

module _ (m m' : Memory) where
  picked : (at : ℕ) (known : List ℕ) → is_among at known ≡ true → SameIn known m m' → m at ≡ m' at
  unfolding is_among SameIn
  picked at [] h same = let z : ◌≡◌ {A = ℕ} 0 1 = cc in absurd (omega arith)
  picked at (k ∷ known) h same = by (eqb at k) refl h (λ r. picked at known r same.1)
    where
      by : (b : Bool) → eqb at k ≡ b → (if b then true else is_among at known) ≡ true
          → (is_among at known ≡ true → m at ≡ m' at) → m at ≡ m' at
      by true e h ih = rw (eqb-true at k e) same.0
      by false e h ih = ih h

  pub within : (words known : List ℕ) → among words known ≡ true → SameIn known m m' → SameIn words m m'
  unfolding among SameIn
  within [] known h same = tt
  within (at ∷ rest) known h same = by (is_among at known) refl h (λ r. within rest known r same)
    where
      by : (b : Bool) → is_among at known ≡ b → (if b then among rest known else false) ≡ true
          → (among rest known ≡ true → SameIn rest m m') → (m at ≡ m' at) × SameIn rest m m'
      by true e h ih = (picked at known e same, ih h)
      by false e h ih = let z : ◌≡◌ {A = ℕ} 0 1 = cc in absurd (omega arith)
