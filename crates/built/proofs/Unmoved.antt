-- Rules over two memories that agree in the entries that they read: the same answer, and they stop at the same entry. An entry that can't
-- be fetched in the one can't be in the other.
use Prim.Native.Nat.{ℕ, zero, suc}
use mathlib.Core.Bool.{true, false}
use mathlib.Core.Path.{◌≡◌, refl, ap, sym, ◌∙◌, subst}
use mathlib.Core.List.{[], ◌∷◌, ◌++◌, Memᴰ}
use native.Mathlib.Omega.{arith}
use Rattle.std.specs.Prelude.{if◌then◌else◌}
use Rattle.image.specs.EntryKind.{EntryKind, page_entry, words_of, is_page}
use Rattle.image.specs.Memory.{Memory, Fetched, missing, found, entry, on_fetch}
use Rattle.image.specs.Place.{Place, entry_at, last_tried}
use Rattle.image.specs.Rules.{Rules, answer, fetch, run, map_rules, entries_of}
use Rattle.image.proofs.Places.{tried-map}
use Rattle.image.proofs.Trees.{run-map}
use Rattle.dma.specs.Walk.{Step, done, down, on_step, place_in, walk_rules}

module _ (m m' : Memory) where
  -- the same answer, and the same entry tried last
  pub record Unmoved {A : Type 0} (q : Rules A) : Type 0 where
    pub answers : run q m' ≡ run q m
    pub stops : (before : Place) → last_tried before q m' ≡ last_tried before q m

  pub only-answer : {A : Type 0} (a : A) → Unmoved (answer a)
  unfolding run last_tried
  only-answer a = record { answers = refl; stops = λ before. refl }

  pub on-fetch : {A : Type 0} (kind : EntryKind) (at : ℕ) (outside : A) (next : ℕ → Rules A)
      → entry (words_of kind) m' at ≡ entry (words_of kind) m at
      → ((e : ℕ) → entry (words_of kind) m at ≡ found e → Unmoved (next e)) → Unmoved (fetch kind at outside next)
  unfolding run last_tried
  on-fetch {A} kind at outside next same after = record {
    answers = rw same (value (entry (words_of kind) m at) refl);
    stops = λ before. rw same (place (entry (words_of kind) m at) refl);
  }
    where
      value : (f : Fetched) → entry (words_of kind) m at ≡ f
          → on_fetch f outside (λ e. run (next e) m') ≡ on_fetch f outside (λ e. run (next e) m)
      value missing is = refl
      value (found e) is = (after e is).answers

      place : (f : Fetched) → entry (words_of kind) m at ≡ f
          → on_fetch f (entry_at at) (λ e. last_tried (entry_at at) (next e) m') ≡ on_fetch f (entry_at at) (λ e. last_tried (entry_at at) (next e) m)
      place missing is = refl
      place (found e) is = (after e is).stops (entry_at at)

  pub mapped : {A B : Type 0} (f : A → B) (q : Rules A) → Unmoved q → Unmoved (map_rules f q)
  mapped f q u = record {
    answers = run-map f q m' ∙ ap f u.answers ∙ sym (run-map f q m);
    stops = λ before. tried-map f before q m' ∙ u.stops before ∙ sym (tried-map f before q m);
  }

  -- the page entries that rules read are alike
  abbrev pub PagesAlike : {A : Type 0} → Rules A → Type 0
  PagesAlike q = (at : ℕ) → Memᴰ at (entries_of is_page q m) → entry 1 m' at ≡ entry 1 m at

  -- then an entry of another kind leads to rules of which this holds too
  pub other-fetch : {A : Type 0} (kind : EntryKind) (at : ℕ) (outside : A) (next : ℕ → Rules A) → is_page kind ≡ false
      → entry (words_of kind) m' at ≡ entry (words_of kind) m at
      → ((e : ℕ) → entry (words_of kind) m at ≡ found e → PagesAlike (next e) → Unmoved (next e))
      → PagesAlike (fetch kind at outside next) → Unmoved (fetch kind at outside next)
  unfolding entries_of
  other-fetch {A} kind at outside next no-page same after = by (entry (words_of kind) m at) refl
    where
      by : (f : Fetched) → entry (words_of kind) m at ≡ f
          → ((a : ℕ) → Memᴰ a (on_fetch f [] (λ e. (if is_page kind then at ∷ [] else []) ++ entries_of is_page (next e) m)) → entry 1 m' a ≡ entry 1 m a)
          → Unmoved (fetch kind at outside next)
      by missing is alike =
          on-fetch kind at outside next same
          (λ e other. let z : ◌≡◌ {A = Fetched} missing (found e) = sym is ∙ other in let y : ◌≡◌ {A = ℕ} 0 1 = cc in absurd (omega arith))
      by (found e) is alike =
          on-fetch kind at outside next same
          (λ e' other.
          let same-entry : e ≡ e' = let z : found e ≡ found e' = sym is ∙ other in cc in
          subst (λ (x : ℕ). Unmoved (next x)) same-entry (after e is (λ a among. alike a (rw no-page among))))

  -- a walk whose page entries the two have alike, where it could fetch them
  module _ {S A : Type 0} (address : ℕ) (none : S → A) (step : (level place : ℕ) → S → (e : ℕ) → Step S A)
      (gone : (at : ℕ) → entry 1 m at ≡ missing → entry 1 m' at ≡ missing) where
    pub walk-unmoved : (level table : ℕ) (s : S)
        → PagesAlike (walk_rules address none step level table s) → Unmoved (walk_rules address none step level table s)
    unfolding walk_rules entries_of
    walk-unmoved zero table s alike = only-answer (none s)
    walk-unmoved (suc n) table s alike =
        by (entry 1 m (place_in address table n)) refl alike (walk-unmoved n)
      where
        at : ℕ
        at = place_in address table n

        next : ℕ → Rules A
        next e = on_step (step (suc n) at s e) answer (walk_rules address none step n)

        Ih : Type 0
        Ih = (table : ℕ) (s : S) → PagesAlike (walk_rules address none step n table s) → Unmoved (walk_rules address none step n table s)

        on : (x : Step S A) → PagesAlike (on_step x answer (walk_rules address none step n)) → Ih → Unmoved (on_step x answer (walk_rules address none step n))
        on (done a) alike ih = only-answer a
        on (down table t) alike ih = ih table t alike

        by : (f : Fetched) → entry 1 m at ≡ f
            → ((a : ℕ) → Memᴰ a (on_fetch f [] (λ e. (if true then at ∷ [] else []) ++ entries_of is_page (next e) m)) → entry 1 m' a ≡ entry 1 m a)
            → Ih → Unmoved (fetch page_entry at (none s) next)
        by missing is alike ih =
            on-fetch page_entry at (none s) next (gone at is ∙ sym is)
            (λ e other. let z : ◌≡◌ {A = Fetched} missing (found e) = sym is ∙ other in let y : ◌≡◌ {A = ℕ} 0 1 = cc in absurd (omega arith))
        by (found e) is alike ih =
            on-fetch page_entry at (none s) next (alike at (Memᴰ.head refl))
            (λ e' other.
            let same : e ≡ e' = let z : found e ≡ found e' = sym is ∙ other in cc in
            subst (λ (x : ℕ). Unmoved (next x)) same (on (step (suc n) at s e) (λ a among. alike a (Memᴰ.tail among)) ih))
