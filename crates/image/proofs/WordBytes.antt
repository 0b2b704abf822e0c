-- A word as the library makes it of its bytes, and takes it apart.
use Rattle.std.proofs.Common.{◌≡◌, ℕ, ◌/◌, ◌^◌, List, [], ◌∷◌, length, arith}
use Rattle.std.specs.Int.{w64, from_le_bytes, to_le_bytes}
use Rattle.image.specs.Bytes.{little_endian, bytes_of}

pub from-bytes : (xs : List ℕ) → length xs ≡ 8 → from_le_bytes w64 xs ≡ little_endian xs
unfolding little_endian
from-bytes [] h = absurd (omega (arith, h))
from-bytes (a ∷ []) h = absurd (omega (arith, h))
from-bytes (a ∷ b ∷ []) h = absurd (omega (arith, h))
from-bytes (a ∷ b ∷ c ∷ []) h = absurd (omega (arith, h))
from-bytes (a ∷ b ∷ c ∷ d ∷ []) h = absurd (omega (arith, h))
from-bytes (a ∷ b ∷ c ∷ d ∷ e ∷ []) h = absurd (omega (arith, h))
from-bytes (a ∷ b ∷ c ∷ d ∷ e ∷ f ∷ []) h = absurd (omega (arith, h))
from-bytes (a ∷ b ∷ c ∷ d ∷ e ∷ f ∷ g ∷ []) h = absurd (omega (arith, h))
from-bytes (a ∷ b ∷ c ∷ d ∷ e ∷ f ∷ g ∷ i ∷ []) h = omega arith
from-bytes (a ∷ b ∷ c ∷ d ∷ e ∷ f ∷ g ∷ i ∷ j ∷ rest) h = absurd (omega (arith, h))

pub to_bytes : (n : ℕ) → to_le_bytes w64 n ≡ bytes_of 8 n
unfolding bytes_of
to_bytes n =
    let h2 : n / 256 / 256 ≡ n / 256 ^ 2 = omega arith in
    let h3 : n / 256 / 256 / 256 ≡ n / 256 ^ 3 = omega arith in
    let h4 : n / 256 / 256 / 256 / 256 ≡ n / 256 ^ 4 = omega arith in
    let h5 : n / 256 / 256 / 256 / 256 / 256 ≡ n / 256 ^ 5 = omega arith in
    let h6 : n / 256 / 256 / 256 / 256 / 256 / 256 ≡ n / 256 ^ 6 = omega arith in
    let h7 : n / 256 / 256 / 256 / 256 / 256 / 256 / 256 ≡ n / 256 ^ 7 = omega arith in
    cc
