-- A row of meters that is ticked or reset in place.
use Rattle.std.specs.Prelude.{ℕ, Bool, true, false, cond, List, [], ◌∷◌, map}
use Rattle.meter.specs.declared.Meter.{Meter}
use Rattle.meter.specs.Meter.{ticked, meter_byte, cleared}
use Rattle.meter.specs.Refused.{tick_refused}

-- each meter with its count
unfoldable pub ticked_all : List Meter → List ℕ → List Meter
ticked_all [] counts = []
ticked_all (meter ∷ row) [] = meter ∷ row
ticked_all (meter ∷ row) (count ∷ counts) = ticked meter count ∷ ticked_all row counts

-- whether the row is ticked, the row and the bytes: refused, both are left as they came
abbrev pub tick_row : List Meter → List ℕ → List ℕ → Bool × List Meter × List ℕ
tick_row row counts bytes =
    cond (tick_refused row counts bytes) (false, row, bytes) (true, ticked_all row counts, map meter_byte (ticked_all row counts))

abbrev pub reset_row : List Meter → List Meter
reset_row row = map cleared row
