-- What one level of a translation request's walk makes of the entry that the code fetched, and the walk after it.
use Prim.Native.Nat.{ℕ, suc, ◌-◌, ◌%◌, ◌<◌}
use mathlib.Core.Bool.{Bool}
use mathlib.Core.Path.{◌≡◌}
use native.Mathlib.Omega.{arith}
use Rattle.image.specs.Bits.{in_place}
use Rattle.image.specs.Memory.{Memory, Fetched, missing, found, entry, on_fetch}
use Rattle.image.specs.Place.{Place, entry_at, last_tried}
use Rattle.image.specs.Rules.{run}
use Rattle.registers.specs.declared.Registers.{Registers}
use Rattle.dma.specs.Walk.{done, down, place_in, step_over}
use Rattle.dma.proofs.Onward as onward
use Rattle.dma.proofs.Stepped.{more-levels}
use Rattle.dma.proofs.Walks.{walk-anew}
use Rattle.translation.specs.Completion.{Completion, fault, entry_step, entry_over, joined_rules}
use Rattle.translation.specs.declared.Rights.{Rights}
use Rattle.translation.proofs.Entries.{step-cases}

module _ (registers : Registers) (address : ℕ) (fpd : Bool) (m : Memory) (n table : ℕ) (above : Rights) where
  pub unfetched : missing ≡ entry 1 m (place_in address table n) → done (fault 0x07 fpd) ≡ entry_over registers address fpd m n table above
  unfolding step_over
  unfetched h = rw (← h)

  pub fetched : {e : ℕ} → found e ≡ entry 1 m (place_in address table n)
      → entry_step registers fpd (suc n) (place_in address table n) above e ≡ entry_over registers address fpd m n table above
  unfolding step_over
  fetched h = rw (← h)

  -- a level leads to a table that begins a page, and is not the last
  pub down_to : {next : ℕ} {t : Rights} → down next t ≡ entry_over registers address fpd m n table above → (next % 4096 ≡ 0) × (0 < n)
  unfolding step_over
  down_to {next} {t} = by (entry 1 m (place_in address table n))
    where
      by : (f : Fetched) → down next t ≡ on_fetch f (done (fault 0x07 fpd)) (entry_step registers fpd (suc n) (place_in address table n) above)
          → (next % 4096 ≡ 0) × (0 < n)
      by missing = λ h. let z : ◌≡◌ {A = ℕ} 0 1 = cc in absurd (omega arith)
      by (found e) =
          step-cases registers fpd (suc n) (place_in address table n) above e (λ x. down next t ≡ x → (next % 4096 ≡ 0) × (0 < n))
          (λ none h. let z : ◌≡◌ {A = ℕ} 0 1 = cc in absurd (omega arith))
          (λ any set h. let z : ◌≡◌ {A = ℕ} 0 1 = cc in absurd (omega arith))
          (λ any free none h. let z : ◌≡◌ {A = ℕ} 0 1 = cc in absurd (omega arith))
          (λ any free left leaf h. let z : ◌≡◌ {A = ℕ} 0 1 = cc in absurd (omega arith))
          (λ any free left more h. let is : next ≡ in_place e 51 12 = cc in (rw is (omega arith), more-levels n e more))

-- the laws of every walk, at this one
module _ (registers : Registers) (address : ℕ) (fpd : Bool) (m : Memory) (level table : ℕ) (s : Rights) (more : 0 < level) where
  pub ended : {c : Completion} → done c ≡ entry_over registers address fpd m (level - 1) table s
      → c ≡ run (joined_rules registers address fpd level table s) m
  ended = onward.ended address (λ above. fault 0x07 fpd) (entry_step registers fpd) m level table s more

  pub led : {next : ℕ} {t : Rights} → down next t ≡ entry_over registers address fpd m (level - 1) table s
      → run (joined_rules registers address fpd (level - 1) next t) m ≡ run (joined_rules registers address fpd level table s) m
  led = onward.onward address (λ above. fault 0x07 fpd) (entry_step registers fpd) m level table s more

  pub ended_at : (before : Place) {c : Completion} → done c ≡ entry_over registers address fpd m (level - 1) table s
      → last_tried before (joined_rules registers address fpd level table s) m ≡ entry_at (place_in address table (level - 1))
  ended_at = onward.ended_at address (λ above. fault 0x07 fpd) (entry_step registers fpd) m level table s more

  pub led-at : (before : Place) {next : ℕ} {t : Rights} → down next t ≡ entry_over registers address fpd m (level - 1) table s
      → last_tried before (joined_rules registers address fpd level table s) m
      ≡ last_tried (entry_at (place_in address table (level - 1))) (joined_rules registers address fpd (level - 1) next t) m
  led-at = onward.onward-at address (λ above. fault 0x07 fpd) (entry_step registers fpd) m level table s more

  pub anew : (before before' : Place)
      → last_tried before (joined_rules registers address fpd level table s) m ≡ last_tried before' (joined_rules registers address fpd level table s) m
  anew before before' = walk-anew address (λ above. fault 0x07 fpd) (entry_step registers fpd) m before before' level table s more
