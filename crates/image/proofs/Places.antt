-- Laws of where the rules stopped, for every rules tree.
use Rattle.std.proofs.Common.{◌≡◌, ℕ, [], ◌++◌, Option, refl, ap, arith}
use Rattle.std.specs.declared.option.Option.TheVariants as option
use Rattle.image.specs.Check.{Check, stop, go, on_check}
use Rattle.image.specs.Answers.{place_of}
use Rattle.image.specs.EntryKind.{EntryKind, words_of}
use Rattle.image.specs.Memory.{Memory, Fetched, missing, found, entry, on_fetch}
use Rattle.image.specs.Place.{Place, no_entry, entry_at, last_tried, stopped_at}
use Rattle.image.specs.Rules.{Rules, answer, fetch, named, map_rules, words_from, SameIn}
use Rattle.image.specs.Stage.{stage}
use Rattle.image.proofs.Local.{alike-left, alike_right, entry-alike}
use Rattle.image.proofs.Stages.{after}
use Rattle.image.proofs.Trees.{Complete}

-- telling each answer otherwise doesn't move it
pub tried-map : {A B : Type 0} (f : A → B) (before : Place) (q : Rules A) (m : Memory) → last_tried before (map_rules f q) m ≡ last_tried before q m
unfolding last_tried map_rules
tried-map f before (answer a) m = refl
tried-map f before (fetch kind at outside next) m = by (entry (words_of kind) m at) (λ e. tried-map f (entry_at at) (next e) m)
  where
    by : (x : Fetched) → ((e : ℕ) → last_tried (entry_at at) (map_rules f (next e)) m ≡ last_tried (entry_at at) (next e) m)
        → on_fetch x (entry_at at) (λ e. last_tried (entry_at at) (map_rules f (next e)) m)
        ≡ on_fetch x (entry_at at) (λ e. last_tried (entry_at at) (next e) m)
    by missing ih = refl
    by (found e) ih = ih e

module _ {A : Type 0} where
  -- it is settled by the words that the rules name
  pub local-place : (before : Place) (q : Rules A) (m m' : Memory) → Complete q m → SameIn (named q m) m m'
      → last_tried before q m ≡ last_tried before q m'
  unfolding last_tried named Complete
  local-place before (answer a) m m' c h = refl
  local-place before (fetch kind at outside next) m m' c h =
      by (entry (words_of kind) m at) refl c h (λ x. local-place (entry_at at) (next x) m m')
    where
      by : (f : Fetched) → entry (words_of kind) m at ≡ f
          → on_fetch f ⊥ (λ e. Complete (next e) m)
          → SameIn (on_fetch f [] (λ e. words_from (words_of kind) at ++ named (next e) m)) m m'
          → ((x : ℕ) → Complete (next x) m → SameIn (named (next x) m) m m' → last_tried (entry_at at) (next x) m ≡ last_tried (entry_at at) (next x) m')
          → on_fetch f (entry_at at) (λ e. last_tried (entry_at at) (next e) m) ≡ last_tried before (fetch kind at outside next) m'
      by missing told c h ih = absurd c
      by (found x) told c h ih =
          let same = entry-alike (words_of kind) at m m' (alike-left (words_from (words_of kind) at) (named (next x) m) m m' h) in
          rw (← same, told) (ih x c (alike_right (words_from (words_of kind) at) (named (next x) m) m m' h))

  -- rules that only answer stop where they began
  pub only_at : {B : Type 0} (before : Place) (m : Memory) (k : Check B) (stopped : ℕ → A) (gone : B → A)
      → before ≡ last_tried before (on_check k (λ reason. answer (stopped reason)) (λ b. answer (gone b))) m
  unfolding last_tried
  only_at before m (stop reason) stopped gone = refl
  only_at before m (go b) stopped gone = refl

-- some entry
abbrev pub Some : Place → Type 0
Some no_entry = ⊥
Some (entry_at at) = Unit {0}

module _ {A : Type 0} where
  some_after : (at : ℕ) (q : Rules A) (m : Memory) → Some (last_tried (entry_at at) q m)
  unfolding last_tried
  some_after at (answer a) m = tt
  some_after at (fetch kind place outside next) m = by (entry (words_of kind) m place) (λ e. some_after place (next e) m)
    where
      by : (f : Fetched) → ((e : ℕ) → Some (last_tried (entry_at place) (next e) m))
          → Some (on_fetch f (entry_at place) (λ e. last_tried (entry_at place) (next e) m))
      by missing ih = tt
      by (found e) ih = ih e

  -- rules that begin with a fetch stop at some entry
  pub some-fetch : (kind : EntryKind) (at : ℕ) (outside : A) (next : ℕ → Rules A) (m : Memory) → Some (stopped_at (fetch kind at outside next) m)
  unfolding last_tried
  some-fetch kind at outside next m = some_after at (fetch kind at outside next) m

-- a stage, by what the code's fetch and check said
module _ {A B : Type 0} (kind : EntryKind) (at : ℕ) (absent : A) (check : ℕ → Check B) (stopped : ℕ → ℕ → A) (next : B → Rules A) where
  abbrev this : Rules A
  this = stage kind at absent check stopped next

  module _ (before : Place) (m : Memory) where
    pub unfetched-at : missing ≡ entry (words_of kind) m at → entry_at at ≡ last_tried before this m
    unfolding last_tried
    unfetched-at h = rw (← h)

    pub checked-at : {e : ℕ} → found e ≡ entry (words_of kind) m at → {q : Rules A} → q ≡ after kind at absent check stopped next e
        → last_tried (entry_at at) q m ≡ last_tried before this m
    unfolding last_tried
    checked-at {e} h told = rw (← h) (ap (λ (q : Rules A). last_tried (entry_at at) q m) told)

-- no two places of the code stand for the same entry
pub place_of-injective : (p q : Option ℕ) → place_of p ≡ place_of q → p ≡ q
place_of-injective option.None option.None e = refl
place_of-injective option.None (option.Some b) e = let z : ◌≡◌ {A = ℕ} 0 1 = cc in absurd (omega arith)
place_of-injective (option.Some a) option.None e = let z : ◌≡◌ {A = ℕ} 0 1 = cc in absurd (omega arith)
place_of-injective (option.Some a) (option.Some b) e = cc
