-- Document 01, interrupts: the two formats of a request, and the index of a remappable one.
use Rattle.std.specs.Prelude.{ℕ, ◌+◌, ◌*◌, ◌^◌, not, ◌||◌}
use Rattle.image.specs.Bits.{bits, bit, any_set}
use Rattle.image.specs.Check.{Check, stop, go}
use Rattle.std.specs.Prelude.{if◌then◌else◌}
use Rattle.registers.specs.declared.Registers.{Registers}

-- bits 19:5, with bit 2 as bit 15
abbrev pub handle_of : (address : ℕ) → ℕ
handle_of address = bits address 19 5 + bits address 2 2 * 2 ^ 15

pub data Format : Type 0 where
  -- the compatibility format, which is passed unchanged
  compatibility : Format
  -- a whole number up to 131,070
  remappable : (index : ℕ) → Format

-- bit 4 tells the formats apart: the compatibility format is 25h with EIME or without CFIS. Bit 3 is SHV: without it data is ignored, with
-- it any bit set in data 31:16 is 20h
unfoldable pub request_check : Registers → (address message : ℕ) → Check Format
request_check registers address message =
    if not (bit address 4) then
    (if registers.eime || not registers.cfis then stop 0x25 else go compatibility)
    else if not (bit address 3) then go (remappable (handle_of address))
    else if any_set message 31 16 then stop 0x20
    else go (remappable (handle_of address + bits message 15 0))
