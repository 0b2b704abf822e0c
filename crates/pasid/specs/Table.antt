-- The PASID table entry: table + 64 × PASID bits 5:0, 64 bytes. P 0, FPD 1, AW 4:2, PGTT 8:6, SLADE 9, SLPTPTR 63:12, PWSNP 87, SRE 128,
-- FLPM 131:130, WPE 132, NXE 133, EAFE 135, FLPTPTR 191:140. Not looked at: SLEE 5, DID 79:64, memory types 95:88 and 127:96, ERE 129,
-- SMEP 134.
use Rattle.std.specs.Prelude.{ℕ, ◌+◌, ◌*◌, ◌^◌, Bool, false, not, ◌&&◌, ◌||◌, eqb}
use Rattle.image.specs.Bits.{bits, bit, any_set, in_place}
use Rattle.image.specs.Check.{Check, stop, go}
use Rattle.std.specs.Prelude.{if◌then◌else◌}
use Rattle.dma.specs.Context.{width_supported}
use Rattle.pasid.specs.declared.ScalableRegisters.{ScalableRegisters}
use Rattle.pasid.specs.declared.table.PasidEntry.{PasidEntry}

-- SLADE, SRE and EAFE, where the unit hasn't what they switch on
unfoldable pub feature_reserved : ScalableRegisters → (e : ℕ) → Bool
feature_reserved r e = bit e 9 && not r.slads || bit e 128 && not r.srs || bit e 135 && not r.eafs

-- of SLPTPTR and FLPTPTR
unfoldable pub pointers_reserved : (haw e : ℕ) → Bool
pointers_reserved haw e = any_set e 63 haw || any_set e 191 (128 + haw)

unfoldable pub table_reserved : ScalableRegisters → (e : ℕ) → Bool
table_reserved r e =
    any_set e 11 10
    || any_set e 86 80
    || any_set e 139 136
    || any_set e 511 192
    || pointers_reserved r.base.haw e
    || feature_reserved r e

-- PGTT: 1 first level, 2 second level, 3 nested, 4 pass-through
abbrev pub type_supported : ScalableRegisters → (pgtt : ℕ) → Bool
type_supported r pgtt =
    if eqb pgtt 1 then r.flts
    else if eqb pgtt 2 then r.slts
    else if eqb pgtt 3 then r.nest
    else if eqb pgtt 4 then r.pt
    else false

-- FLPM: 0 means 4 levels, 1 means 5
abbrev pub mode_supported : ScalableRegisters → (flpm : ℕ) → Bool
mode_supported r flpm = eqb flpm 0 || eqb flpm 1 && r.fl5lp

-- AW counts where there is a second level, FLPM where there is a first
unfoldable pub table_invalid : ScalableRegisters → (e : ℕ) → Bool
table_invalid r e =
    not (type_supported r (bits e 8 6))
    || (eqb (bits e 8 6) 2 || eqb (bits e 8 6) 3) && not (width_supported r.base (bits e 4 2))
    || (eqb (bits e 8 6) 1 || eqb (bits e 8 6) 3) && not (mode_supported r (bits e 131 130))

-- fpd: of the context or the directory entry
abbrev pub pasid_entry_of : (privileged fpd : Bool) (e : ℕ) → PasidEntry
pasid_entry_of privileged fpd e =
    record {
      kind = bits e 8 6;
      second_top = in_place e 63 12;
      second_levels = bits e 4 2 + 2;
      first_top = bits e 191 140 * 2 ^ 12;
      first_levels = bits e 131 130 + 4;
      slade = bit e 9;
      pwsnp = bit e 87;
      wpe = bit e 132;
      nxe = bit e 133;
      eafe = bit e 135;
      privileged = privileged;
      fpd = fpd || bit e 1;
    }

-- 59h, 5Ah, 5Bh, then 5Dh (a privileged request and SRE clear); else on with what the entry says
unfoldable pub table_check : ScalableRegisters → (privileged fpd : Bool) (e : ℕ) → Check PasidEntry
table_check r privileged fpd e =
    if not (bit e 0) then stop 0x59
    else if table_reserved r e then stop 0x5A
    else if table_invalid r e then stop 0x5B
    else if privileged && not (bit e 128) then stop 0x5D
    else go (pasid_entry_of privileged fpd e)
