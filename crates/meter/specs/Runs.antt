-- Claims over runs: a reset, and then any ticks of the row, refused or not. Ticks stand with the newest first.
use Rattle.std.specs.Prelude.{ℕ, zero, suc, ◌+◌, ◌*◌, ◌^◌, ◌≤◌, ◌<◌, ◌≡◌, false, cond, List, [], ◌∷◌, T, length, get_or, Float}
use Rattle.std.specs.Float.Ieee.{le}
use Rattle.std.specs.Float.Ieee.Exact.{HasValue}
use Rattle.meter.specs.declared.Gate.TheVariants.{Off}
use Rattle.meter.specs.declared.Meter.{Meter}
use Rattle.meter.specs.Meter.{nought, most, tick_load, trips_of}
use Rattle.meter.specs.Refused.{tick_refused}
use Rattle.meter.specs.Row.{ticked_all, tick_row, reset_row}

-- what a tick is called with beside the row
pub record Tick : Type 0 where
  pub counts : List ℕ
  pub bytes : List ℕ

-- the row after a reset and these ticks
unfoldable pub row_after : List Meter → List Tick → List Meter
row_after row [] = reset_row row
row_after row (tick ∷ earlier) = (tick_row (row_after row earlier) tick.counts tick.bytes).1

-- the counts that the meter at a place was ticked with: a refused tick is no tick
unfoldable pub counts_at : List Meter → ℕ → List Tick → List ℕ
counts_at row place [] = []
counts_at row place (tick ∷ earlier) =
    cond (tick_refused (row_after row earlier) tick.counts tick.bytes) (counts_at row place earlier)
    (get_or tick.counts place 0 ∷ counts_at row place earlier)

-- the meter at a place; off the row it is never asked for
abbrev pub meter_at : List Meter → ℕ → Meter
meter_at row place = get_or row place (record { load = nought; gate = Off })

-- the counts weighted by halving: 2^k for the newest, half of that for the one before
unfoldable pub weighed_by_halving : ℕ → List ℕ → ℕ
weighed_by_halving k [] = 0
weighed_by_halving zero (count ∷ earlier) = count
weighed_by_halving (suc k) (count ∷ earlier) = count * 2 ^ suc k + weighed_by_halving k earlier

-- one count, then k ticks of none
unfoldable pub quiet : ℕ → ℕ → List ℕ
quiet count zero = count ∷ []
quiet count (suc k) = 0 ∷ quiet count k

-- The first 32 ticks: the load is the counts weighted by halving over 2^31, a whole number over 2^31, not rounded.
abbrev pub FirstTicks : Type 0
FirstTicks = (row : List Meter) (ticks : List Tick) (place : ℕ) → place < length row → length (counts_at row place ticks) ≤ 32
    → HasValue (meter_at (row_after row ticks) place).load false (weighed_by_halving 31 (counts_at row place ticks)) (2 ^ 31)

-- One count, then k ticks of none, leave the count over 2^k.
abbrev pub Decays : Type 0
Decays = (row : List Meter) (ticks : List Tick) (place count k : ℕ) → place < length row → k ≤ 31 → counts_at row place ticks ≡ quiet count k
    → HasValue (meter_at (row_after row ticks) place).load false count (2 ^ k)

-- from 0 to 131,070
abbrev pub InRange : Float → Type 0
InRange load = T (le nought load) × T (le load most)

-- After any number of ticks the load is never above 131,070, whatever is rounded.
abbrev pub NeverAbove : Type 0
NeverAbove = (row : List Meter) (ticks : List Tick) (place : ℕ) → place < length row → InRange (meter_at (row_after row ticks) place).load

-- A tick of any row that isn't refused leaves every load from 0 to 131,070, so no load can have the next one refused.
abbrev pub StaysInRange : Type 0
StaysInRange = (row : List Meter) (counts bytes : List ℕ) (place : ℕ) → tick_refused row counts bytes ≡ false → place < length row
    → InRange (meter_at (ticked_all row counts) place).load

-- A byte is 1 exactly if the new load trips the gate.
abbrev pub BytesTell : Type 0
BytesTell = (row : List Meter) (counts bytes : List ℕ) (place : ℕ) → tick_refused row counts bytes ≡ false → place < length row
    → get_or (tick_row row counts bytes).2 place 0 ≡ cond (trips_of (meter_at row place).gate (tick_load (meter_at row place).load (get_or counts place 0))) 1 0
