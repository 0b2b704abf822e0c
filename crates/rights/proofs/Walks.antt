-- Walks whose steps keep what they make of an entry are rules that keep their answers.
use Prim.Native.Nat.{ℕ, zero, suc, ◌%◌}
use mathlib.Core.Bool.{true}
use mathlib.Core.Path.{◌≡◌}
use native.Mathlib.Omega.{arith}
use Rattle.image.specs.EntryKind.{EntryKind, page_entry}
use Rattle.image.specs.Rules.{Rules, answer}
use Rattle.dma.specs.Walk.{Step, done, down, on_step, place_in, walk_rules}
use Rattle.nested.specs.Way.{Located, located, lost, on_located, entry_rules, ended, way_rules}
use Rattle.rights.specs.Tables.{is_walked}
use Rattle.rights.proofs.Kept.{Keeps, keeps-answer, keeps-fetch, keeps-dead, keeps_then}

module _ (Up : ℕ → ℕ → Type 0) {S A : Type 0} (Kept : A → A → Type 0) (Dead : A → Type 0) (all : (a b : A) → Dead a → Kept a b) (Held : S → S → Type 0) where
  -- where the first step leads down, so does the second, to the same table; an answer is kept
  abbrev pub StepKeeps : Step S A → Step S A → Type 0
  StepKeeps (done a) (done b) = Kept a b
  StepKeeps (done a) (down table s) = Dead a
  StepKeeps (down table s) (done b) = ⊥
  StepKeeps (down table s) (down table' s') = (table ≡ table') × (table % 8 ≡ 0) × Held s s'

  -- so does a way to an entry
  abbrev pub WayKeeps : Located S A → Located S A → Type 0
  WayKeeps (located place s) (located place' s') = (place ≡ place') × (place % 8 ≡ 0) × Held s s'
  WayKeeps (located place s) (lost b) = ⊥
  WayKeeps (lost a) (located place s) = Dead a
  WayKeeps (lost a) (lost b) = Kept a b

  abbrev pub WayDead : Located S A → Type 0
  WayDead (located place s) = ⊥
  WayDead (lost a) = Dead a

  module _ (address : ℕ) (none : S → A) (step : (level place : ℕ) → S → (e : ℕ) → Step S A)
      (lacks : (s s' : S) → Held s s' → Kept (none s) (none s'))
      (steps : (level place : ℕ) (s s' : S) (e e' : ℕ) → Held s s' → Up e e' → StepKeeps (step level place s e) (step level place s' e')) where
    -- what follows a step
    onward : (walk : (table : ℕ) → S → Rules A)
        → ((table : ℕ) (s s' : S) → table % 8 ≡ 0 → Held s s' → Keeps Up Kept Dead (walk table s) (walk table s'))
        → (x y : Step S A) → StepKeeps x y → Keeps Up Kept Dead (on_step x answer walk) (on_step y answer walk)
    onward walk ih (done a) (done b) h = keeps-answer Up Kept Dead a b h
    onward walk ih (done a) (down table s) h = keeps-dead Up Kept Dead all a h (walk table s)
    onward walk ih (down table s) (done b) h = absurd h
    onward walk ih (down table s) (down table' s') h = rw (← h.0) (ih table s s' h.1 h.2)

    pub keeps-walk : (level table : ℕ) (s s' : S) → table % 8 ≡ 0 → Held s s'
        → Keeps Up Kept Dead (walk_rules address none step level table s) (walk_rules address none step level table s')
    unfolding walk_rules
    keeps-walk zero table s s' aligned held = keeps-answer Up Kept Dead (none s) (none s') (lacks s s' held)
    keeps-walk (suc n) table s s' aligned held =
        keeps-fetch Up Kept Dead page_entry (place_in address table n) (none s) (none s') _ _ (omega arith) (lacks s s' held)
        (λ e e' up.
        onward (walk_rules address none step n) (keeps-walk n) (step (suc n) (place_in address table n) s e) (step (suc n) (place_in address table n) s' e')
        (steps (suc n) (place_in address table n) s s' e e' held up))

    module _ (kind : EntryKind) (walked : is_walked kind ≡ true) (locate : S → (place : ℕ) → Rules (Located S A))
        (ways : (s s' : S) (place : ℕ) → place % 8 ≡ 0 → Held s s' → Keeps Up WayKeeps WayDead (locate s place) (locate s' place)) where
      ends : (l l' : Located S A) → WayKeeps l l' → Kept (ended kind address locate none step l) (ended kind address locate none step l')
      ends (located place s) (located place' s') h = lacks s s' h.2
      ends (located place s) (lost b) h = absurd h
      ends (lost a) (located place s) h = all a (none s) h
      ends (lost a) (lost b) h = h

      pub keeps-way : (level table : ℕ) (s s' : S) → table % 8 ≡ 0 → Held s s'
          → Keeps Up Kept Dead (way_rules kind address locate none step level table s) (way_rules kind address locate none step level table s')
      unfolding way_rules
      keeps-way zero table s s' aligned held = keeps-answer Up Kept Dead (none s) (none s') (lacks s s' held)
      keeps-way (suc n) table s s' aligned held =
          keeps_then Up WayKeeps WayDead Kept Dead _ _ (next n) (next n) ends (after n (keeps-way n)) (stops n) (locate s (place_in address table n))
          (locate s' (place_in address table n)) (ways s s' (place_in address table n) (omega arith) held)
        where
          next : (n : ℕ) → Located S A → Rules A
          next n l = on_located l answer (entry_rules kind address locate none step (suc n) (way_rules kind address locate none step n))

          after : (n : ℕ)
              → ((table : ℕ) (s s' : S) → table % 8 ≡ 0 → Held s s'
              → Keeps Up Kept Dead (way_rules kind address locate none step n table s) (way_rules kind address locate none step n table s'))
              → (l l' : Located S A) → WayKeeps l l' → Keeps Up Kept Dead (next n l) (next n l')
          after n ih (located place s) (located place' s') h =
              rw (← h.0)
              (keeps-fetch Up Kept Dead kind place (none s) (none s') _ _ h.1 (lacks s s' h.2)
              (λ e e' up.
              onward (way_rules kind address locate none step n) ih (step (suc n) place s e) (step (suc n) place s' e')
              (steps (suc n) place s s' e e' h.2 (rw walked at up))))
          after n ih (located place s) (lost b) h = absurd h
          after n ih (lost a) (located place s) h = keeps-dead Up Kept Dead all a h _
          after n ih (lost a) (lost b) h = keeps-answer Up Kept Dead a b h

          stops : (n : ℕ) (l : Located S A) → WayDead l → (q : Rules A) → Keeps Up Kept Dead (next n l) q
          stops n (located place s) dead q = absurd dead
          stops n (lost a) dead q = keeps-dead Up Kept Dead all a dead q
