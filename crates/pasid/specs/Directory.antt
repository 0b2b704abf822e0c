-- The PASID directory entry: directory + 8 × PASID bits 19:6, 8 bytes. P 0, FPD 1, SMPTPTR 63:12.
use Rattle.std.specs.Prelude.{ℕ, Bool, not, ◌||◌}
use Rattle.image.specs.Bits.{bit, any_set, in_place}
use Rattle.image.specs.Check.{Check, stop, go}
use Rattle.std.specs.Prelude.{if◌then◌else◌}
use Rattle.pasid.specs.declared.directory.PasidTable.{PasidTable}

unfoldable pub directory_reserved : (haw e : ℕ) → Bool
directory_reserved haw e = any_set e 11 2 || any_set e 63 haw

-- 51h, 52h in this order; else on with the PASID table, and with FPD where it is set in this entry or in the one before
unfoldable pub directory_check : (haw : ℕ) (fpd : Bool) (e : ℕ) → Check PasidTable
directory_check haw fpd e =
    if not (bit e 0) then stop 0x51
    else if directory_reserved haw e then stop 0x52
    else go (record { address = in_place e 63 12; fpd = fpd || bit e 1 })
