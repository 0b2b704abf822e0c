-- The calls on a row of meters: an array for each part of a meter, one place for each meter.
use Rattle.std.specs.Prelude.{ℕ, Bool, cond, not, ◌&&◌, ◌||◌, List, [], ◌∷◌, map, ltb, eqb, length, get_or, drop, Float}
use Rattle.meter.specs.declared.Gate.{Gate}
use Rattle.meter.specs.declared.Gate.TheVariants.{Off, Above, Outside}
use Rattle.meter.specs.declared.Meter.{Meter}
use Rattle.meter.specs.Meter.{nought}
use Rattle.meter.specs.Refused.{some}
use Rattle.meter.specs.Row.{tick_row}
use Rattle.packing.specs.Status.{ok, bad_meters, meters_refused}

-- kind 0 is off, 1 above the high, 2 outside low and high
abbrev pub gate_of : ℕ → Float → Float → Gate
gate_of kind low high = cond (eqb kind 0) Off (cond (eqb kind 1) (Above high) (Outside low high))

abbrev pub meter_of : ℕ → Float → Float → Float → Meter
meter_of kind low high load = record { load = load; gate = gate_of kind low high }

unfoldable pub row_of : List ℕ → List Float → List Float → List Float → List Meter
row_of kinds lows highs [] = []
row_of kinds lows highs (load ∷ loads) = meter_of (get_or kinds 0 0) (get_or lows 0 nought) (get_or highs 0 nought) load ∷ row_of (drop 1 kinds) (drop 1 lows) (drop 1 highs) loads

abbrev pub loads_of : List Meter → List Float
loads_of row = map (λ (meter : Meter). meter.load) row

-- kinds, lows and highs not one per load, or a kind that is none of the three
abbrev pub malformed_meters : List ℕ → List Float → List Float → List Float → Bool
malformed_meters kinds lows highs loads =
    not (eqb (length kinds) (length loads) && eqb (length lows) (length loads) && eqb (length highs) (length loads))
    || some (λ kind. ltb 2 kind) kinds

-- the status, the loads and the bytes
abbrev pub tick_status : Bool × List Meter × List ℕ → ℕ × List Float × List ℕ
tick_status outcome = (cond outcome.0 ok meters_refused, loads_of outcome.1, outcome.2)

abbrev pub tick_meters_call : List ℕ → List Float → List Float → List Float → List ℕ → List ℕ → ℕ × List Float × List ℕ
tick_meters_call kinds lows highs loads counts bytes =
    cond (malformed_meters kinds lows highs loads) (bad_meters, loads, bytes) (tick_status (tick_row (row_of kinds lows highs loads) counts bytes))

abbrev pub reset_meters_call : List Float → ℕ × List Float
reset_meters_call loads = (ok, map (λ _. nought) loads)
