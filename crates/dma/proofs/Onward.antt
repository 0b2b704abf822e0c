-- A walk by levels, by what its first level does: for the code's loops, over any format of the entries.
use Prim.Native.Nat.{ℕ, suc, ◌-◌, ◌<◌}
use mathlib.Core.Path.{◌≡◌, ap, sym, ◌∙◌}
use native.Mathlib.Omega.{arith}
use Rattle.image.specs.Memory.{Memory}
use Rattle.image.specs.Place.{Place, entry_at, last_tried}
use Rattle.image.specs.Rules.{run}
use Rattle.dma.specs.Walk.{Step, done, down, on_step, place_in, walk_rules, step_over}
use Rattle.dma.proofs.Walks.{walk_step_lem, walk-tried}

module _ {S A : Type 0} (address : ℕ) (none : S → A) (step : (level place : ℕ) → S → (e : ℕ) → Step S A) (m : Memory)
    (level table : ℕ) (s : S) (more : 0 < level) where
  first : run (walk_rules address none step level table s) m
      ≡ on_step (step_over address none step m (level - 1) table s) (λ a. a) (λ next t. run (walk_rules address none step (level - 1) next t) m)
  first =
      let this : level ≡ suc (level - 1) = omega arith in
      ap (λ (l : ℕ). run (walk_rules address none step l table s) m) this ∙ walk_step_lem address none step m (level - 1) table s

  -- it ends the walk, or leads on
  pub ended : {a : A} → done a ≡ step_over address none step m (level - 1) table s → a ≡ run (walk_rules address none step level table s) m
  ended h = sym (rw (← h) at first)

  pub onward : {next : ℕ} {t : S} → down next t ≡ step_over address none step m (level - 1) table s
      → run (walk_rules address none step (level - 1) next t) m ≡ run (walk_rules address none step level table s) m
  onward h = sym (rw (← h) at first)

  first-at : (before : Place) → last_tried before (walk_rules address none step level table s) m
      ≡ on_step (step_over address none step m (level - 1) table s) (λ a. entry_at (place_in address table (level - 1)))
      (λ next t. last_tried (entry_at (place_in address table (level - 1))) (walk_rules address none step (level - 1) next t) m)
  first-at before =
      let this : level ≡ suc (level - 1) = omega arith in
      ap (λ (l : ℕ). last_tried before (walk_rules address none step l table s) m) this ∙ walk-tried address none step m before (level - 1) table s

  -- where the walk stopped, in either case
  pub ended_at : (before : Place) {a : A} → done a ≡ step_over address none step m (level - 1) table s
      → last_tried before (walk_rules address none step level table s) m ≡ entry_at (place_in address table (level - 1))
  ended_at before h = rw (← h) at first-at before

  pub onward-at : (before : Place) {next : ℕ} {t : S} → down next t ≡ step_over address none step m (level - 1) table s
      → last_tried before (walk_rules address none step level table s) m
      ≡ last_tried (entry_at (place_in address table (level - 1))) (walk_rules address none step (level - 1) next t) m
  onward-at before h = rw (← h) at first-at before
