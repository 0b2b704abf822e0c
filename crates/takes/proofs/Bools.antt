-- Tests joined with a known one.
use mathlib.Core.Bool.{Bool, true, false, not, ◌&&◌, ◌||◌}
use mathlib.Core.Path.{◌≡◌, refl}

pub or-and-false : (a b : Bool) → (a || b && false) ≡ a
or-and-false true b = refl
or-and-false false true = refl
or-and-false false false = refl

pub and-not-or : (a b c : Bool) → ((a && not b) && not c) ≡ (a && not (c || b))
and-not-or true true true = refl
and-not-or true true false = refl
and-not-or true false true = refl
and-not-or true false false = refl
and-not-or false b c = refl
