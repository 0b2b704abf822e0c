-- More memory: what a request names over a memory is the same in one that has all its words and more.
use Rattle.std.proofs.Common.{◌≡◌, ℕ, zero, suc, ◌+◌, ◌-◌, ◌*◌, ◌%◌, ◌≤◌, List, [], ◌∷◌, ◌++◌, length, take, drop, sym, refl, ◌∙◌, arith, length-append, length-drop}
use lib.Seq.{take-append-le, drop-append-le}
use Rattle.image.specs.Alike.{Extends}
use Rattle.image.specs.EntryKind.{EntryKind, words_of}
use Rattle.image.specs.Memory.{Memory, Fetched, missing, found, join, on_fetch, of_image, entry}
use Rattle.image.specs.Rules.{Rules, answer, fetch, words_from, named, SameIn}
use Rattle.image.proofs.Forks.{Every}
use Rattle.image.proofs.Words.{whole-entry}

module _ (m m' : Memory) (extends : Extends m m') where
  -- the words of a fetched entry
  entry_kept : (n at : ℕ) (rest : List ℕ) {e : ℕ} → at % 8 ≡ 0 → entry n m at ≡ found e → SameIn rest m m' → SameIn (words_from n at ++ rest) m m'
  unfolding SameIn words_from entry
  entry_kept zero at rest aligned there same = same
  entry_kept (suc n) at rest {e} aligned there same =
      by (m at) (entry n m (at + 8)) refl refl there (λ x others. entry_kept n (at + 8) rest {e = x} (omega arith) others same)
    where
      by : (f g : Fetched) → m at ≡ f → entry n m (at + 8) ≡ g → join f g ≡ found e
          → ((x : ℕ) → entry n m (at + 8) ≡ found x → SameIn (words_from n (at + 8) ++ rest) m m')
          → SameIn (at ∷ words_from n (at + 8) ++ rest) m m'
      by missing g first others there ih = let z : ◌≡◌ {A = ℕ} 0 1 = cc in absurd (omega arith)
      by (found w) missing first others there ih = let z : ◌≡◌ {A = ℕ} 0 1 = cc in absurd (omega arith)
      by (found w) (found x) first others there ih = (first ∙ sym (extends at w aligned first), ih x others)

  -- of rules that read at multiples of 8
  pub extended : {A : Type 0} (Fork : EntryKind → ℕ → A → Type 0) (Ends : A → Type 0) → ((kind : EntryKind) (at : ℕ) (a : A) → Fork kind at a → at % 8 ≡ 0)
      → (most : ℕ) (q : Rules A) → Every Fork Ends most q → SameIn (named q m) m m'
  unfolding Every SameIn named
  extended Fork Ends aligned most (answer a) is = tt
  extended Fork Ends aligned most (fetch kind at outside next) is =
      by (entry (words_of kind) m at) refl (λ e. extended Fork Ends aligned (most - words_of kind) (next e) (is.2 e))
    where
      by : (f : Fetched) → entry (words_of kind) m at ≡ f → ((e : ℕ) → SameIn (named (next e) m) m m')
          → SameIn (on_fetch f [] (λ e. words_from (words_of kind) at ++ named (next e) m)) m m'
      by missing told ih = tt
      by (found e) told ih = entry_kept (words_of kind) at (named (next e) m) (aligned kind at outside is.1) told (ih e)

-- Two images that are alike in a word: it lies whole in both with the same bytes. Whatever else they hold, and how long they are, is free.
pub record SameWord (image image' : List ℕ) (at : ℕ) : Type 0 where
  pub whole : at + 8 ≤ length image
  pub whole' : at + 8 ≤ length image'
  pub bytes : take 8 (drop at image) ≡ take 8 (drop at image')

-- alike in each of these words
unfoldable pub SameWords : List ℕ → List ℕ → List ℕ → Type 0
SameWords image image' [] = Unit {0}
SameWords image image' (at ∷ rest) = SameWord image image' at × SameWords image image' rest

module _ (image more : List ℕ) where
  word_kept : (at : ℕ) → at + 8 ≤ length image → SameWord image (image ++ more) at
  word_kept at h =
      record {
        whole = h;
        whole' = rw (length-append image more) (omega arith);
        bytes =
            sym
            (rw (drop-append-le at image more (omega arith))
            (take-append-le 8 (drop at image) more (rw (length-drop at image) (omega arith))));
      }

  words-kept : (n at : ℕ) (rest : List ℕ) → at + 8 * n ≤ length image → SameWords image (image ++ more) rest
      → SameWords image (image ++ more) (words_from n at ++ rest)
  unfolding SameWords words_from
  words-kept zero at rest h same = same
  words-kept (suc n) at rest h same = (word_kept at (omega arith), words-kept n (at + 8) rest (omega arith) same)

  pub longer : {A : Type 0} (q : Rules A) → SameWords image (image ++ more) (named q (of_image image))
  unfolding SameWords named entry words_from
  longer (answer a) = tt
  longer {A} (fetch kind at outside next) = by (words_of kind) (λ e. longer (next e)) (entry (words_of kind) (of_image image) at) refl
    where
      by : (n : ℕ) → ((e : ℕ) → SameWords image (image ++ more) (named (next e) (of_image image)))
          → (f : Fetched) → entry n (of_image image) at ≡ f
          → SameWords image (image ++ more) (on_fetch f [] (λ e. words_from n at ++ named (next e) (of_image image)))
      by n rest missing h = tt
      by zero rest (found e) h = rest e
      by (suc n) rest (found e) h = words-kept (suc n) at (named (next e) (of_image image)) (whole-entry image n at h) (rest e)
