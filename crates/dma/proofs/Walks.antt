-- Laws of a walk by levels, over any format of its entries.
use Prim.Native.Nat.{ℕ, zero, suc, ◌%◌, ◌<◌, ◌≤◌}
use mathlib.Core.Path.{◌≡◌, refl}
use native.Mathlib.Omega.{arith}
use Rattle.image.specs.EntryKind.{EntryKind, page_entry}
use Rattle.image.specs.Memory.{Memory, Fetched, missing, found, entry, on_fetch}
use Rattle.image.specs.Place.{Place, entry_at, last_tried}
use Rattle.image.specs.Rules.{answer, run}
use Rattle.image.proofs.Forks.{Every, every-answer, every-fetch}
use Rattle.image.proofs.Same.{one_word}
use Rattle.dma.specs.Isolation.{BothFetched}
use Rattle.dma.specs.Walk.{Step, done, down, on_step, place_in, walk_rules, step_over}

-- what a step makes of an entry, it makes of another too: always where it leads on, and where it ends with a good answer
abbrev pub KeptStep : {S A : Type 0} → (A → Type 0) → Step S A → Step S A → Type 0
KeptStep Good (done a) y = Good a → y ≡ done a
KeptStep Good (down next t) y = y ≡ down next t

module _ {S A : Type 0} (address : ℕ) (none : S → A) (step : (level place : ℕ) → S → (e : ℕ) → Step S A) where
  -- a walk is its first level, then the walk of what that leads to
  pub walk_step_lem : (m : Memory) (n table : ℕ) (s : S)
      → run (walk_rules address none step (suc n) table s) m
      ≡ on_step (step_over address none step m n table s) (λ a. a) (λ next t. run (walk_rules address none step n next t) m)
  unfolding run walk_rules step_over
  walk_step_lem m n table s = go (entry 1 m (place_in address table n))
    where
      on : (x : Step S A)
          → run (on_step x answer (walk_rules address none step n)) m
          ≡ on_step x (λ a. a) (λ next t. run (walk_rules address none step n next t) m)
      on (done a) = refl
      on (down next t) = refl

      go : (f : Fetched)
          → on_fetch f (none s) (λ e. run (on_step (step (suc n) (place_in address table n) s e) answer (walk_rules address none step n)) m)
          ≡ on_step (on_fetch f (done (none s)) (step (suc n) (place_in address table n) s)) (λ a. a)
          (λ next t. run (walk_rules address none step n next t) m)
      go missing = refl
      go (found e) = on (step (suc n) (place_in address table n) s e)

  -- and it stops at its first entry, or where the walk of what that leads to stops
  pub walk-tried : (m : Memory) (before : Place) (n table : ℕ) (s : S)
      → last_tried before (walk_rules address none step (suc n) table s) m
      ≡ on_step (step_over address none step m n table s) (λ a. entry_at (place_in address table n))
      (λ next t. last_tried (entry_at (place_in address table n)) (walk_rules address none step n next t) m)
  unfolding last_tried walk_rules step_over
  walk-tried m before n table s = go (entry 1 m (place_in address table n))
    where
      here : Place
      here = entry_at (place_in address table n)

      on : (x : Step S A)
          → last_tried here (on_step x answer (walk_rules address none step n)) m
          ≡ on_step x (λ a. here) (λ next t. last_tried here (walk_rules address none step n next t) m)
      on (done a) = refl
      on (down next t) = refl

      go : (f : Fetched)
          → on_fetch f here (λ e. last_tried here (on_step (step (suc n) (place_in address table n) s e) answer (walk_rules address none step n)) m)
          ≡ on_step (on_fetch f (done (none s)) (step (suc n) (place_in address table n) s)) (λ a. here)
          (λ next t. last_tried here (walk_rules address none step n next t) m)
      go missing = refl
      go (found e) = on (step (suc n) (place_in address table n) s e)

  -- whatever was tried before
  pub walk-anew : (m : Memory) (before before' : Place) (level table : ℕ) (s : S) → 0 < level
      → last_tried before (walk_rules address none step level table s) m ≡ last_tried before' (walk_rules address none step level table s) m
  unfolding last_tried walk_rules
  walk-anew m before before' zero table s more = absurd (omega arith)
  walk-anew m before before' (suc n) table s more = refl

  -- what holds of a walk's forks and answers: a table of a level is at an address of a kind, and answers are those of some levels at most
  pub every-walk : (Fork : EntryKind → ℕ → A → Type 0) (Ends : A → Type 0) (Table : (level table : ℕ) → Type 0) (most : ℕ)
      → ((table : ℕ) (s : S) → Table 0 table → Ends (none s))
      → ((n table : ℕ) (s : S) → Table (suc n) table → Fork page_entry (place_in address table n) (none s))
      → ((n place : ℕ) (s : S) (e : ℕ) (a : A) → n < most → done a ≡ step (suc n) place s e → Ends a)
      → ((n place : ℕ) (s : S) (e next : ℕ) (t : S) → down next t ≡ step (suc n) place s e → Table n next)
      → (level table : ℕ) (s : S) → level ≤ most → Table level table → Every Fork Ends level (walk_rules address none step level table s)
  unfolding walk_rules
  every-walk Fork Ends Table most past reads ends leads zero table s few here = every-answer Fork Ends 0 (none s) (past table s here)
  every-walk Fork Ends Table most past reads ends leads (suc n) table s few here =
      every-fetch Fork Ends (suc n) n page_entry (place_in address table n) (none s) _ (omega arith) (reads n table s here)
      (λ e.
      go e (step (suc n) (place_in address table n) s e) refl
      (λ next t. every-walk Fork Ends Table most past reads ends leads n next t (omega arith)))
    where
      go : (e : ℕ) (x : Step S A) → x ≡ step (suc n) (place_in address table n) s e
          → ((next : ℕ) (t : S) → Table n next → Every Fork Ends n (walk_rules address none step n next t))
          → Every Fork Ends n (on_step x answer (walk_rules address none step n))
      go e (done a) told ih = every-answer Fork Ends n a (ends n (place_in address table n) s e a (omega arith) told)
      go e (down next t) told ih = ih next t (leads n (place_in address table n) s e next t told)

  -- steps that lead to multiples of 8 read words
  module _ (steps : (level place : ℕ) (s : S) (e next : ℕ) (t : S) → down next t ≡ step level place s e → next % 8 ≡ 0) where
    -- over two memories whose words are so related that a step keeps what it made of them, a good answer is kept
    module _ (Good : A → Type 0) (R : ℕ → ℕ → Type 0)
        (kept : (level place : ℕ) (s : S) (e e' : ℕ) → R e e' → KeptStep Good (step level place s e) (step level place s e'))
        (m m' : Memory) (related : (a : ℕ) → a % 8 ≡ 0 → BothFetched R (m a) (m' a)) where
      pub kept-walk : (level table : ℕ) (s : S) (a : A) → Good a → table % 8 ≡ 0
          → run (walk_rules address none step level table s) m ≡ a → run (walk_rules address none step level table s) m' ≡ a
      unfolding run walk_rules
      kept-walk zero table s a good h was = was
      kept-walk (suc n) table s a good h was =
          rw (one_word m' (place_in address table n))
          (go (m (place_in address table n)) (m' (place_in address table n)) (related (place_in address table n) (omega arith))
          (rw (one_word m (place_in address table n)) at was)
          (λ next t. kept-walk n next t a good))
        where
          rest : Memory → Step S A → A
          rest m x = run (on_step x answer (walk_rules address none step n)) m

          on : {e : ℕ} (x y : Step S A) → x ≡ step (suc n) (place_in address table n) s e → KeptStep Good x y → rest m x ≡ a
              → ((next : ℕ) (t : S) → next % 8 ≡ 0 → run (walk_rules address none step n next t) m ≡ a → run (walk_rules address none step n next t) m' ≡ a)
              → rest m' y ≡ a
          on (done b) y told same was ih = rw (same (rw was good)) was
          on {e} (down next t) y told same was ih = rw same (ih next t (steps (suc n) (place_in address table n) s e next t told) was)

          go : (f f' : Fetched) → BothFetched R f f'
              → on_fetch f (none s) (λ e. rest m (step (suc n) (place_in address table n) s e)) ≡ a
              → ((next : ℕ) (t : S) → next % 8 ≡ 0 → run (walk_rules address none step n next t) m ≡ a → run (walk_rules address none step n next t) m' ≡ a)
              → on_fetch f' (none s) (λ e. rest m' (step (suc n) (place_in address table n) s e)) ≡ a
          go missing missing up was ih = was
          go missing (found e') up was ih = absurd up
          go (found e) missing up was ih = absurd up
          go (found e) (found e') up was ih =
              on (step (suc n) (place_in address table n) s e) (step (suc n) (place_in address table n) s e') refl
              (kept (suc n) (place_in address table n) s e e' up) was ih
