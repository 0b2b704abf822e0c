-- Document 01, "Root entry": root table + 16 × bus, 16 bytes.
use Rattle.std.specs.Prelude.{ℕ, Bool, not, ◌||◌}
use Rattle.image.specs.Bits.{bit, any_set, in_place}
use Rattle.std.specs.Prelude.{if◌then◌else◌}
use Rattle.image.specs.Check.{Check, stop, go}

unfoldable pub root_reserved : (haw e : ℕ) → Bool
root_reserved haw e = any_set e 11 1 || any_set e 127 64 || any_set e 63 haw

-- 01h, 0Ah in this order; else on with the context table's address
unfoldable pub root_check : (haw e : ℕ) → Check ℕ
root_check haw e =
    if not (bit e 0) then stop 0x01
    else if root_reserved haw e then stop 0x0A
    else go (in_place e 63 12)
