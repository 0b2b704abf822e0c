-- The root entry of scalable mode: root table + 16 × bus, 16 bytes in two halves, bits 63:0 for devices 0 to 15 and bits 127:64 for
-- devices 16 to 31. Each half has P in its bit 0 (LP, UP) and the address of a context table in its bits 63:12 (LCTP, UCTP).
use Rattle.std.specs.Prelude.{ℕ, Bool, true, false, not, ◌&&◌, ◌||◌}
use Rattle.image.specs.Bits.{bits, bit, any_set, in_place}
use Rattle.image.specs.Check.{Check, stop, go}
use Rattle.std.specs.Prelude.{if◌then◌else◌}

abbrev pub half : (upper : Bool) (e : ℕ) → ℕ
half upper e = if upper then bits e 127 64 else bits e 63 0

-- 11:1 and 63:HAW, of a half that is present
abbrev pub half_reserved : (haw h : ℕ) → Bool
half_reserved haw h = bit h 0 && (any_set h 11 1 || any_set h 63 haw)

-- in use or not
unfoldable pub root_reserved : (haw e : ℕ) → Bool
root_reserved haw e = half_reserved haw (half false e) || half_reserved haw (half true e)

-- 39h, 3Ah in this order; else on with the context table's address
unfoldable pub root_check : (haw : ℕ) (upper : Bool) (e : ℕ) → Check ℕ
root_check haw upper e =
    if not (bit (half upper e) 0) then stop 0x39
    else if root_reserved haw e then stop 0x3A
    else go (in_place (half upper e) 63 12)
