-- What one level of the walk makes of the entry that the code fetched and checked.
use Prim.Native.Nat.{ℕ, zero, suc, ◌-◌, ◌%◌, ◌<◌}
use mathlib.Core.Bool.{Bool, true, false}
use mathlib.Core.Path.{◌≡◌, refl}
use native.Mathlib.Omega.{arith}
use Rattle.image.specs.Check.{Check, stop, go, on_check}
use Rattle.std.specs.Prelude.{if◌then◌else◌}
use Rattle.image.specs.Memory.{Memory, Fetched, missing, found, entry, on_fetch}
use Rattle.image.specs.Place.{Place, entry_at, last_tried}
use Rattle.image.specs.Rules.{run}
use Rattle.registers.specs.declared.Registers.{Registers}
use Rattle.dma.specs.Page.{page_check, leaf_at}
use Rattle.dma.specs.Translation.{Translation, leaf, fault, page_step, page_over, page_rules}
use Rattle.dma.specs.Walk.{Step, done, down, place_in, step_over}
use Rattle.dma.proofs.Steps.{page-frame}
use Rattle.dma.proofs.Onward as walk
use Rattle.dma.proofs.Walks.{walk-anew}

module _ (registers : Registers) (address : ℕ) (write fpd : Bool) (m : Memory) (n table : ℕ) where
  pub unfetched : missing ≡ entry 1 m (place_in address table n)
      → done (fault 0x07 fpd) ≡ page_over registers address write fpd m n table
  unfolding step_over
  unfetched h = rw (← h)

  module _ {e : ℕ} (h : found e ≡ entry 1 m (place_in address table n)) where
    pub stopped : {reason : ℕ} → stop reason ≡ page_check registers write (suc n) e
        → done (fault reason fpd) ≡ page_over registers address write fpd m n table
    unfolding step_over
    stopped told = rw (← h, ← told)

    module _ {frame : ℕ} (told : go frame ≡ page_check registers write (suc n) e) where
      pub at_leaf : leaf_at (suc n) e ≡ true
          → done (leaf frame (suc n)) ≡ page_over registers address write fpd m n table
      unfolding step_over
      at_leaf page = rw (← h, ← told, page)

      pub at_table_lem : leaf_at (suc n) e ≡ false → down frame tt ≡ page_over registers address write fpd m n table
      unfolding step_over
      at_table_lem more = rw (← h, ← told, more)

-- the laws of every walk, at this one: a level that ends it, and one that leads on
module _ (registers : Registers) (address : ℕ) (write fpd : Bool) (m : Memory) (level table : ℕ) (more : 0 < level) where
  pub ended : {t : Translation} → done t ≡ page_over registers address write fpd m (level - 1) table
      → t ≡ run (page_rules registers address write fpd level table) m
  ended = walk.ended address (λ s. fault 0x07 fpd) (page_step registers address write fpd) m level table tt more

  pub onward : {next : ℕ} → down next tt ≡ page_over registers address write fpd m (level - 1) table
      → run (page_rules registers address write fpd (level - 1) next) m ≡ run (page_rules registers address write fpd level table) m
  onward = walk.onward address (λ s. fault 0x07 fpd) (page_step registers address write fpd) m level table tt more

  -- where the walk stopped, in either case
  pub ended_at : (before : Place) {t : Translation} → done t ≡ page_over registers address write fpd m (level - 1) table
      → last_tried before (page_rules registers address write fpd level table) m ≡ entry_at (place_in address table (level - 1))
  ended_at = walk.ended_at address (λ s. fault 0x07 fpd) (page_step registers address write fpd) m level table tt more

  pub onward-at : (before : Place) {next : ℕ} → down next tt ≡ page_over registers address write fpd m (level - 1) table
      → last_tried before (page_rules registers address write fpd level table) m
      ≡ last_tried (entry_at (place_in address table (level - 1))) (page_rules registers address write fpd (level - 1) next) m
  onward-at before h =
      walk.onward-at address (λ s. fault 0x07 fpd) (page_step registers address write fpd) m level table tt more before h

  pub anew : (before before' : Place)
      → last_tried before (page_rules registers address write fpd level table) m ≡ last_tried before' (page_rules registers address write fpd level table) m
  anew before before' =
      walk-anew address (λ s. fault 0x07 fpd) (page_step registers address write fpd) m before before' level table tt more

-- an entry that leads on leads to its frame, and is no page's
pub leads : (registers : Registers) (address : ℕ) (write fpd : Bool) (level place e : ℕ) {next : ℕ}
    → down next tt ≡ page_step registers address write fpd level place tt e
    → (page_check registers write level e ≡ go next) × (leaf_at level e ≡ false)
leads registers address write fpd level place e {next} = on (page_check registers write level e) (leaf_at level e)
  where
    on : (k : Check ℕ) (page : Bool)
        → ◌≡◌ {A = Step (Unit {0}) Translation} (down next tt)
        (on_check k (λ r. done (fault r fpd)) (λ frame. if page then done (leaf frame level) else down frame tt))
        → (k ≡ go next) × (page ≡ false)
    on (stop r) page h = let z : ◌≡◌ {A = ℕ} 0 1 = cc in absurd (omega arith)
    on (go frame) true h = let z : ◌≡◌ {A = ℕ} 0 1 = cc in absurd (omega arith)
    on (go frame) false h = (cc, refl)

-- level 1 has no table below
pub more-levels : (n e : ℕ) → leaf_at (suc n) e ≡ false → 0 < n
more-levels zero e h = let z : ◌≡◌ {A = ℕ} 0 1 = cc in absurd (omega arith)
more-levels (suc n) e h = omega arith

-- so it leads to a multiple of 8
pub leads-aligned : (registers : Registers) (address : ℕ) (write fpd : Bool) (level place : ℕ) (s : Unit {0}) (e next : ℕ) (t : Unit {0})
    → down next t ≡ page_step registers address write fpd level place s e → next % 8 ≡ 0
leads-aligned registers address write fpd level place s e next t told =
    rw (page-frame registers write level e next (leads registers address write fpd level place e told).0) (omega arith)

-- a level leads to a table that begins a page, and is not the last
pub down_to : (registers : Registers) (address : ℕ) (write fpd : Bool) (m : Memory) (n table : ℕ) {next : ℕ}
    → down next tt ≡ page_over registers address write fpd m n table → (next % 4096 ≡ 0) × (0 < n)
unfolding step_over
down_to registers address write fpd m n table {next} = on (entry 1 m (place_in address table n))
  where
    on : (f : Fetched)
        → down next tt ≡ on_fetch f (done (fault 0x07 fpd)) (page_step registers address write fpd (suc n) (place_in address table n) tt)
        → (next % 4096 ≡ 0) × (0 < n)
    on missing h = let z : ◌≡◌ {A = ℕ} 0 1 = cc in absurd (omega arith)
    on (found e) h =
        let led = leads registers address write fpd (suc n) (place_in address table n) e h in
        (rw (page-frame registers write (suc n) e next led.0) (omega arith), more-levels n e led.1)
