-- The definition of finite is that of the library.
use Rattle.std.proofs.Common.{◌≡◌, refl}
use Rattle.std.specs.Float.{Float, nan, inf, fin, float_is_finite}
use Rattle.meter.specs.Refused.{finite}

pub same_finite : (x : Float) → float_is_finite x ≡ finite x
unfolding float_is_finite
same_finite nan = refl
same_finite (inf s) = refl
same_finite (fin s m e) = refl
