-- A lent buffer by the numbers of its bytes, as include/galitzaf.h writes them: byte 2, bytes 15:8.
use Rattle.std.specs.Prelude.{ℕ, suc, ◌-◌, List, get_or, take, drop}
use Rattle.image.specs.Bytes.{little_endian}

abbrev pub byte : List ℕ → ℕ → ℕ
byte buffer n = get_or buffer n 0

-- as one number, lowest byte first
abbrev pub bytes : List ℕ → (high low : ℕ) → ℕ
bytes buffer high low = little_endian (take (suc high - low) (drop low buffer))
