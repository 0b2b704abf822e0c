-- When a tick of a row is refused.
use Rattle.std.specs.Prelude.{ℕ, Bool, true, false, not, ◌&&◌, ◌||◌, List, [], ◌∷◌, ltb, eqb, length, Float}
use Rattle.std.specs.Float.{nan, inf, fin}
use Rattle.std.specs.Float.Ieee.{lt, le}
use Rattle.meter.specs.declared.Gate.{Gate}
use Rattle.meter.specs.declared.Gate.TheVariants.{Off, Above, Outside}
use Rattle.meter.specs.declared.Meter.{Meter}
use Rattle.meter.specs.Meter.{nought, most}

abbrev pub bad_count : ℕ → Bool
bad_count count = ltb 65535 count

-- not from 0 to 131,070; a NaN is in no order with anything, and -0 is 0
abbrev pub bad_load : Float → Bool
bad_load load = not (le nought load && le load most)

-- neither a NaN nor an infinity
abbrev pub finite : Float → Bool
finite nan = false
finite (inf s) = false
finite (fin s m e) = true

-- not finite, or below zero
abbrev pub bad_limit : Float → Bool
bad_limit limit = not (finite limit && le nought limit)

abbrev pub bad_gate : Gate → Bool
bad_gate Off = false
bad_gate (Above limit) = bad_limit limit
bad_gate (Outside low high) = bad_limit low || bad_limit high || lt high low

abbrev pub bad_meter : Meter → Bool
bad_meter meter = bad_load meter.load || bad_gate meter.gate

unfoldable pub some : {A : Type 0} → (A → Bool) → List A → Bool
some test [] = false
some test (x ∷ xs) = test x || some test xs

-- counts or bytes not one per meter, a bad count, or a bad meter
abbrev pub tick_refused : List Meter → List ℕ → List ℕ → Bool
tick_refused row counts bytes =
    not (eqb (length counts) (length row) && eqb (length bytes) (length row))
    || some bad_count counts
    || some bad_meter row
