-- Address bits from HAW up, for any HAW.
use Prim.Native.Nat.{ℕ, suc, ◌^◌, ◌≤◌}
use mathlib.Core.Path.{◌≡◌}
use native.Mathlib.Omega.{arith}
use native.Mathlib.Decide.{dec_le}
use native.Mathlib.Nat.{sub-zero}
use lib.Dec.{leb}
use Rattle.image.specs.Bits.{bits, any_set}
use Rattle.image.proofs.Fields.{fits, upside-down}
use Rattle.registers.proofs.Powers.{field-above, beyond}

-- some bit from HAW up to high is set exactly when what stands in high:0 is at or above 2^HAW
pub above : (e high haw : ℕ) → any_set e high haw ≡ leb (2 ^ haw) (bits e high 0)
above e high haw = go (dec_le haw (suc high))
  where
    go : Dec (haw ≤ suc high) → any_set e high haw ≡ leb (2 ^ haw) (bits e high 0)
    go (yes within) = field-above e within
    go (no past) =
        rw (upside-down e {high = high} {low = haw} (omega arith), beyond {k = suc high} {n = haw} (rw (sub-zero (suc high)) at (fits e high 0)) (omega arith))
