-- Laws of a walk with a way to its entries, over any format of the entries and any way.
use Prim.Native.Nat.{ℕ, zero, suc, ◌-◌, ◌<◌}
use mathlib.Core.Path.{◌≡◌, refl, ap, sym, ◌∙◌, fun_ext}
use native.Mathlib.Omega.{arith}
use Rattle.image.specs.EntryKind.{EntryKind, page_entry, words_of}
use Rattle.image.specs.Memory.{Memory, Fetched, missing, found, entry, on_fetch}
use Rattle.image.specs.Place.{Place, entry_at, last_tried}
use Rattle.image.specs.Rules.{Rules, answer, fetch, run}
use Rattle.image.proofs.Trees.{Outside}
use Rattle.dma.specs.Walk.{Step, done, down, on_step, place_in, walk_rules}
use Rattle.nested.specs.Then.{then_rules}
use Rattle.nested.specs.Way.{Located, located, lost, on_located, entry_rules, ended, way_rules}
use Rattle.nested.proofs.Thens.{Ends, run-then, tried_then}

-- rules that find no entry
abbrev pub IsLost : {S A : Type 0} → Located S A → Type 0
IsLost (located place s) = ⊥
IsLost (lost a) = Unit {0}

module _ {S A : Type 0} (kind : EntryKind) (address : ℕ) (locate : S → (place : ℕ) → Rules (Located S A)) (none : S → A)
    (step : (level place : ℕ) → S → (e : ℕ) → Step S A) where
  abbrev walk : (level table : ℕ) → S → Rules A
  walk = way_rules kind address locate none step

  abbrev next : (n : ℕ) → Located S A → Rules A
  next n l = on_located l answer (entry_rules kind address locate none step (suc n) (walk n))

  abbrev end : Located S A → A
  end = ended kind address locate none step

  -- the level n + 1 alone, over a memory
  unfoldable pub way_over : Memory → (n table : ℕ) → S → Step S A
  way_over m n table s =
      on_located (run (locate s (place_in address table n)) m) done
      (λ place t. on_fetch (entry (words_of kind) m place) (done (none t)) (step (suc n) place t))

  -- and the last entry that it tries
  unfoldable pub tried_over : (before : Place) → Memory → (n table : ℕ) → S → Place
  tried_over before m n table s =
      on_located (run (locate s (place_in address table n)) m) (λ a. last_tried before (locate s (place_in address table n)) m)
      (λ place t. entry_at place)

  -- a way on which an entry can't be fetched leads to no entry
  module _ (ends : (s : S) (place : ℕ) → Outside IsLost (locate s place)) where
    over : (n : ℕ) (q : Rules (Located S A)) → Outside IsLost q → Outside (Ends end (next n)) q
    unfolding Outside
    over n (answer l) h = tt
    over n (fetch k at outside rest) h = (by outside h.0, λ e. over n (rest e) (h.1 e))
      where
        by : (l : Located S A) → IsLost l → Ends end (next n) l
        by (located place s) h = absurd h
        by (lost a) h = refl

    module _ (m : Memory) (n table : ℕ) (s : S) where
      -- a walk is its first level, then the walk of what that leads to
      pub way_step : run (walk (suc n) table s) m
          ≡ on_step (way_over m n table s) (λ a. a) (λ next t. run (walk n next t) m)
      unfolding way_rules way_over run
      way_step =
          run-then end (next n) (locate s (place_in address table n)) m (over n _ (ends s (place_in address table n)))
          ∙ on (run (locate s (place_in address table n)) m)
        where
          stepped : (x : Step S A) → run (on_step x answer (walk n)) m ≡ on_step x (λ a. a) (λ next t. run (walk n next t) m)
          stepped (done a) = refl
          stepped (down to t) = refl

          fetched : (place : ℕ) (t : S) (f : Fetched)
              → on_fetch f (none t) (λ e. run (on_step (step (suc n) place t e) answer (walk n)) m)
              ≡ on_step (on_fetch f (done (none t)) (step (suc n) place t)) (λ a. a) (λ next t. run (walk n next t) m)
          fetched place t missing = refl
          fetched place t (found e) = stepped (step (suc n) place t e)

          on : (l : Located S A)
              → run (next n l) m
              ≡ on_step (on_located l done (λ place t. on_fetch (entry (words_of kind) m place) (done (none t)) (step (suc n) place t))) (λ a. a)
              (λ next t. run (walk n next t) m)
          on (located place t) = fetched place t (entry (words_of kind) m place)
          on (lost a) = refl

      -- and it stops at the last entry that its first level tries, or where the walk of what that leads to stops
      pub way-tried : (before : Place) → last_tried before (walk (suc n) table s) m
          ≡ on_step (way_over m n table s) (λ a. tried_over before m n table s)
          (λ next t. last_tried (tried_over before m n table s) (walk n next t) m)
      unfolding way_rules way_over tried_over last_tried
      way-tried before =
          tried_then end (next n) before (locate s (place_in address table n)) m (over n _ (ends s (place_in address table n)))
          ∙ on (run (locate s (place_in address table n)) m)
        where
          last : Place
          last = last_tried before (locate s (place_in address table n)) m

          stepped : (here : Place) (x : Step S A)
              → last_tried here (on_step x answer (walk n)) m ≡ on_step x (λ a. here) (λ next t. last_tried here (walk n next t) m)
          stepped here (done a) = refl
          stepped here (down to t) = refl

          fetched : (place : ℕ) (t : S) (f : Fetched)
              → on_fetch f (entry_at place) (λ e. last_tried (entry_at place) (on_step (step (suc n) place t e) answer (walk n)) m)
              ≡ on_step (on_fetch f (done (none t)) (step (suc n) place t)) (λ a. entry_at place)
              (λ next t. last_tried (entry_at place) (walk n next t) m)
          fetched place t missing = refl
          fetched place t (found e) = stepped (entry_at place) (step (suc n) place t e)

          on : (l : Located S A)
              → last_tried last (next n l) m
              ≡ on_step (on_located l done (λ place t. on_fetch (entry (words_of kind) m place) (done (none t)) (step (suc n) place t)))
              (λ a. on_located l (λ a. last) (λ place t. entry_at place))
              (λ next t. last_tried (on_located l (λ a. last) (λ place t. entry_at place)) (walk n next t) m)
          on (located place t) = fetched place t (entry (words_of kind) m place)
          on (lost a) = refl

  -- one level, by what the way to its entry and the fetch say
  module _ (m : Memory) (n table : ℕ) (s : S) where
    abbrev way : Located S A
    way = run (locate s (place_in address table n)) m

    pub lost-over : {a : A} → lost a ≡ way → done a ≡ way_over m n table s
    unfolding way_over
    lost-over h = rw (← h)

    pub lost-tried : (before : Place) {a : A} → lost a ≡ way
        → last_tried before (locate s (place_in address table n)) m ≡ tried_over before m n table s
    unfolding tried_over
    lost-tried before h = rw (← h)

    module _ {place : ℕ} {t : S} (h : located place t ≡ way) where
      pub fetched-over : on_fetch (entry (words_of kind) m place) (done (none t)) (step (suc n) place t) ≡ way_over m n table s
      unfolding way_over
      fetched-over = rw (← h)

      pub found-tried : (before : Place) → entry_at place ≡ tried_over before m n table s
      unfolding tried_over
      found-tried before = rw (← h)

    -- a level that leads down has an entry whose step does
    pub leads-by : (P : ℕ → Type 0) → ((place : ℕ) (t : S) (e next : ℕ) (u : S) → down next u ≡ step (suc n) place t e → P next)
        → {next : ℕ} {u : S} → down next u ≡ way_over m n table s → P next
    unfolding way_over
    leads-by P steps {next} {u} = on way
      where
        fetched : (place : ℕ) (t : S) (f : Fetched) → down next u ≡ on_fetch f (done (none t)) (step (suc n) place t) → P next
        fetched place t missing h = let z : ◌≡◌ {A = ℕ} 0 1 = cc in absurd (omega arith)
        fetched place t (found e) h = steps place t e next u h

        on : (l : Located S A)
            → down next u ≡ on_located l done (λ place t. on_fetch (entry (words_of kind) m place) (done (none t)) (step (suc n) place t)) → P next
        on (located place t) h = fetched place t (entry (words_of kind) m place) h
        on (lost a) h = let z : ◌≡◌ {A = ℕ} 0 1 = cc in absurd (omega arith)

  -- a walk by what its first level does: for the code's loop
  module _ (ends : (s : S) (place : ℕ) → Outside IsLost (locate s place)) (m : Memory) (level table : ℕ) (s : S) (more : 0 < level) where
    abbrev level-over : Step S A
    level-over = way_over m (level - 1) table s

    abbrev level-tried : Place → Place
    level-tried before = tried_over before m (level - 1) table s

    first : run (walk level table s) m ≡ on_step level-over (λ a. a) (λ next t. run (walk (level - 1) next t) m)
    first =
        let this : level ≡ suc (level - 1) = omega arith in
        ap (λ (l : ℕ). run (walk l table s) m) this ∙ way_step ends m (level - 1) table s

    first-at : (before : Place) → last_tried before (walk level table s) m
        ≡ on_step level-over (λ a. level-tried before) (λ next t. last_tried (level-tried before) (walk (level - 1) next t) m)
    first-at before =
        let this : level ≡ suc (level - 1) = omega arith in
        ap (λ (l : ℕ). last_tried before (walk l table s) m) this ∙ way-tried ends m (level - 1) table s before

    -- it ends the walk, or leads on
    pub ended-way : {a : A} → done a ≡ level-over → a ≡ run (walk level table s) m
    ended-way h = sym (rw (← h) at first)

    pub onward-way : {to : ℕ} {t : S} → down to t ≡ level-over → run (walk (level - 1) to t) m ≡ run (walk level table s) m
    onward-way h = sym (rw (← h) at first)

    -- where the walk stopped, in either case
    pub ended-way-at : (before : Place) {here : Place} {a : A} → here ≡ level-tried before → done a ≡ level-over
        → here ≡ last_tried before (walk level table s) m
    ended-way-at before there h = there ∙ sym (rw (← h) at first-at before)

    pub onward-way-at : (before : Place) {here : Place} {to : ℕ} {t : S} → here ≡ level-tried before → down to t ≡ level-over
        → last_tried here (walk (level - 1) to t) m ≡ last_tried before (walk level table s) m
    onward-way-at before {here} {to} {t} there h =
        ap (λ (place : Place). last_tried place (walk (level - 1) to t) m) there ∙ sym (rw (← h) at first-at before)

-- where every entry is at the address itself, it is the walk by levels of legacy mode
pub straight : {S A : Type 0} (address : ℕ) (none : S → A) (step : (level place : ℕ) → S → (e : ℕ) → Step S A) (level table : ℕ) (s : S)
    → way_rules page_entry address (λ s place. answer (located place s)) none step level table s ≡ walk_rules address none step level table s
unfolding way_rules walk_rules then_rules
straight address none step zero table s = refl
straight {S} {A} address none step (suc n) table s =
    ap (fetch page_entry (place_in address table n) (none s)) (fun_ext (λ e. stepped (step (suc n) (place_in address table n) s e) (straight address none step n)))
  where
    stepped : (x : Step S A)
        → ((table : ℕ) (s : S)
        → way_rules page_entry address (λ s place. answer (located place s)) none step n table s ≡ walk_rules address none step n table s)
        → on_step x answer (way_rules page_entry address (λ s place. answer (located place s)) none step n)
        ≡ on_step x answer (walk_rules address none step n)
    stepped (done a) ih = refl
    stepped (down to t) ih = ih to t
