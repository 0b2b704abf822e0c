-- Fields of a number by their bit numbers, as VT-d writes them: `bits e 83 82` is the field 83:82 of e. An entry of 8, 16 or
-- 64 bytes is one number of 64, 128 or 512 bits.
use Rattle.std.specs.Prelude.{ℕ, suc, ◌-◌, ◌*◌, ◌/◌, ◌%◌, ◌^◌, Bool, not, ◌==◌}

-- the field from bit high down to bit low, as a number; 0 where low is above high
unfoldable pub bits : (e high low : ℕ) → ℕ
bits e high low = e / 2 ^ low % 2 ^ (suc high - low)

-- the bit is set
abbrev pub bit : (e place : ℕ) → Bool
bit e place = bits e place place == 1

-- some bit of the field is set
abbrev pub any_set : (e high low : ℕ) → Bool
any_set e high low = not (bits e high low == 0)

-- the number with the field in its place and every other bit 0: `in_place e 63 12` is the address in 63:12
abbrev pub in_place : (e high low : ℕ) → ℕ
in_place e high low = bits e high low * 2 ^ low

-- the field lies in one word of its entry
abbrev pub in_one_word : (high low : ℕ) → Bool
in_one_word high low = high / 64 == low / 64
