-- A word gathered from its bytes: a law of bytes for those who read a number byte by byte.
use Rattle.std.proofs.Common.{◌≡◌, ℕ, ◌+◌, ◌*◌, ◌%◌, ◌^◌, ◌<◌, List, length, get_or, take, sym, lt_of_lt_of_le, mod-eq_of_lt, mul_comm, add-one, arith, lit<}
use native.Mathlib.Nat.{pow-le-pow_right}
use Rattle.image.specs.Bytes.{little_endian}
use Rattle.image.proofs.Bytes.{AreBytes, bytes_below, byte_power, last_byte}

-- a byte more of a number that is gathered in a word, lowest byte first
module _ (xs : List ℕ) (i : ℕ) (bytes : AreBytes xs) (turn : i < 8) (more : i < length xs) where
  pub gathered-below : little_endian (take (i + 1) xs) < 2 ^ 64
  gathered-below =
      lt_of_lt_of_le (bytes_below (i + 1) xs bytes) (pow-le-pow_right {n = 256} (lit< tt) {i = i + 1} {j = 8} (omega arith))

  pub gathered : {word b : ℕ} → word ≡ little_endian (take i xs) → b ≡ get_or xs i 0
      → word + b * 2 ^ (8 * i) % 2 ^ 64 ≡ little_endian (take (i + 1) xs)
  gathered {word} {b} so_far next =
      let sum : little_endian (take (i + 1) xs) ≡ word + b * 2 ^ (8 * i) =
      rw (add-one i, last_byte i xs more, so_far, next, byte_power i, mul_comm (get_or xs i 0) (256 ^ i)) in
      let below = gathered-below in
      let fits : b * 2 ^ (8 * i) < 2 ^ 64 = omega arith in
      rw (mod-eq_of_lt fits) (sym sum)
