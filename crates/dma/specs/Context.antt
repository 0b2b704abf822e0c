-- Document 01, "Context entry": context table + 16 × (device and function), 16 bytes. 70:67 are not looked at.
use Rattle.std.specs.Prelude.{ℕ, ◌+◌, ◌%◌, ◌<◌, ◌≤◌, Bool, false, not, ◌||◌, ◌≡◌, eqb}
use Rattle.image.specs.Bits.{bits, bit, any_set, in_place}
use Rattle.std.specs.Prelude.{if◌then◌else◌}
use Rattle.registers.specs.declared.Registers.{Registers}
use Rattle.image.specs.Check.{Check, stop, go}
use Rattle.dma.specs.declared.context.Context.{Context}

-- AW, 66:64
abbrev pub address_width : ℕ → ℕ
address_width e = bits e 66 64

-- AW 1, 2, 3 mean 3, 4, 5 levels
abbrev pub levels_of : ℕ → ℕ
levels_of e = address_width e + 2

-- TT, 3:2: 0 and 1 translate, 2 passes through, 3 is bad
abbrev pub translation_type : ℕ → ℕ
translation_type e = bits e 3 2

unfoldable pub context_reserved : (haw e : ℕ) → Bool
context_reserved haw e = any_set e 11 4 || bit e 71 || any_set e 127 88 || any_set e 63 haw

-- whether the levels that AW means are supported
abbrev pub width_supported : Registers → ℕ → Bool
width_supported registers aw =
    if eqb aw 1 then registers.levels3
    else if eqb aw 2 then registers.levels4
    else if eqb aw 3 then registers.levels5
    else false

unfoldable pub context_invalid : Registers → (e : ℕ) → Bool
context_invalid registers e =
    not (width_supported registers (address_width e)) || eqb (translation_type e) 3

-- FPD, bit 1: read even when bit 0 is clear
abbrev pub fault_processing_disabled : ℕ → Bool
fault_processing_disabled e = bit e 1

-- the top page table's address is in 63:12. The domain, 87:72, changes no answer
abbrev pub context_of : (e : ℕ) → Context
context_of e =
    record {
      top = in_place e 63 12;
      levels = levels_of e;
      translation_type = translation_type e;
      fpd = fault_processing_disabled e;
      domain = bits e 87 72;
    }

-- 02h, 0Bh, 03h in this order; else on with what the entry says
unfoldable pub context_check : Registers → (e : ℕ) → Check Context
context_check registers e =
    if not (bit e 0) then stop 0x02
    else if context_reserved registers.haw e then stop 0x0B
    else if context_invalid registers e then stop 0x03
    else go (context_of e)

-- what the check ensures of a context: for the code's contracts and the proofs
abbrev pub Usable : Context → Type 0
Usable context = (0 < context.levels) × (context.levels ≤ 5) × (context.top % 4096 ≡ 0)
