-- Numbers as runs of bytes, over the number of bytes.
use Rattle.std.proofs.Common.{◌≡◌, ℕ, zero, suc, ◌+◌, ◌*◌, ◌/◌, ◌%◌, ◌^◌, ◌<◌, ◌≤◌, List, [], ◌∷◌, ◌++◌, length, get_or, take, drop, sym, refl, ap, ◌∙◌, add-zero, add_assoc, mod-lt, mod-eq_of_lt, mul_assoc, mul_comm, div-lt_iff_lt-mul, add_comm, suc-add, one-mul, pow-suc, mul-zero, zero-add, mul-add, div-one, arith, lit<, get_or-drop, pow-add}
use native.Mathlib.Nat.{div-div-eq-div-mul, add-mul-mod_self_left, add-mul-div_left, mod-one, div-eq_of_lt, one-le-pow, pow-succ'}
use lib.Arith.{mod-mul}
use Rattle.image.specs.Bits.{bits}
use Rattle.image.specs.Bytes.{little_endian, bytes_of}
use Rattle.image.proofs.Fields.{past_top, in-digit, above-digit}

pub length-bytes_of : (n value : ℕ) → length (bytes_of n value) ≡ n
unfolding bytes_of
length-bytes_of zero value = refl
length-bytes_of (suc n) value = ap suc (length-bytes_of n (value / 256))

pub one_byte : (b : ℕ) → b < 256 → bytes_of 1 b ≡ b ∷ []
unfolding bytes_of
one_byte b h = rw (mod-eq_of_lt h)

pub byte_of : (n value i : ℕ) → i < n → get_or (bytes_of n value) i 0 ≡ value / 256 ^ i % 256
unfolding bytes_of
byte_of zero value i h = absurd (omega arith)
byte_of (suc n) value zero h = simp div-one
byte_of (suc n) value (suc i) h = byte_of n (value / 256) i (omega arith) ∙ rw (div-div-eq-div-mul, ← pow-succ' 256 i)

-- the bytes of two numbers side by side are those of one
pub bytes-beside : (n m low high : ℕ) → low < 256 ^ n → bytes_of n low ++ bytes_of m high ≡ bytes_of (n + m) (low + 256 ^ n * high)
unfolding bytes_of
bytes-beside zero m low high h =
    let none : low ≡ 0 = omega arith in
    rw (none, zero-add m, one-mul, zero-add)
bytes-beside (suc n) m low high h =
    let split : low + 256 ^ suc n * high ≡ low + 256 * (256 ^ n * high) = rw (pow-succ' 256 n, mul_assoc) in
    let below : low / 256 < 256 ^ n = (div-lt_iff_lt-mul (lit< tt)).1 (rw pow-suc at h) in
    rw (suc-add n m, split, add-mul-mod_self_left low 256 (256 ^ n * high), add-mul-div_left low (256 ^ n * high) (lit< tt))
    (ap (λ (l : List ℕ). low % 256 ∷ l) (bytes-beside n m (low / 256) high below))

-- the place of byte i in a number
pub byte_power : (i : ℕ) → 2 ^ (8 * i) ≡ 256 ^ i
byte_power zero = refl
byte_power (suc i) =
    let one : 8 * suc i ≡ 8 + 8 * i = omega arith in
    rw (one, pow-add 2 8 (8 * i), byte_power i, pow-succ' 256 i)

-- a run of bytes by its last byte
pub last_byte : (n : ℕ) (xs : List ℕ) → n < length xs
    → little_endian (take (suc n) xs) ≡ little_endian (take n xs) + 256 ^ n * get_or xs n 0
unfolding little_endian
last_byte n [] h = absurd (omega arith)
last_byte zero (x ∷ xs) h = simp (mul-zero, add-zero, one-mul, zero-add)
last_byte (suc n) (x ∷ xs) h =
    rw (last_byte n xs (omega arith), mul-add, ← add_assoc, ← mul_assoc, ← pow-succ' 256 n)

-- a run of bytes by its first n
pub run-split : (n m : ℕ) (xs : List ℕ) → n ≤ length xs
    → little_endian (take (n + m) xs) ≡ little_endian (take n xs) + 256 ^ n * little_endian (take m (drop n xs))
unfolding little_endian
run-split zero m xs h = simp (zero-add, one-mul)
run-split (suc n) m [] h = absurd (omega arith)
run-split (suc n) m (x ∷ xs) h =
    rw (suc-add n m) (rw (run-split n m xs (omega arith), mul-add, ← add_assoc, ← mul_assoc, ← pow-succ' 256 n))

-- a run of bytes, each below 256
abbrev pub AreBytes : List ℕ → Type 0
AreBytes xs = (i : ℕ) → get_or xs i 0 < 256

-- those of two runs, one behind the other, and those of a number
pub bytes-append : (xs ys : List ℕ) → AreBytes xs → AreBytes ys → AreBytes (xs ++ ys)
bytes-append [] ys hx hy i = hy i
bytes-append (x ∷ xs) ys hx hy zero = hx 0
bytes-append (x ∷ xs) ys hx hy (suc i) = bytes-append xs ys (λ j. hx (suc j)) hy i

pub bytes-number : (n value : ℕ) → AreBytes (bytes_of n value)
unfolding bytes_of
bytes-number zero value i = lit< tt
bytes-number (suc n) value zero = mod-lt value (lit< tt)
bytes-number (suc n) value (suc i) = bytes-number n (value / 256) i

pub bytes_below : (n : ℕ) (xs : List ℕ) → AreBytes xs → little_endian (take n xs) < 256 ^ n
unfolding little_endian
bytes_below zero xs bytes = lit< tt
bytes_below (suc n) [] bytes = one-le-pow (suc n) 256 (lit< tt)
bytes_below (suc n) (x ∷ xs) bytes =
    let first = bytes 0 in
    let rest = bytes_below n xs (λ i. bytes (suc i)) in
    rw (pow-succ' 256 n) (omega arith)

-- the bytes of a number with one more byte below it
pub byte-before : (n d rest : ℕ) → d < 256 → bytes_of (suc n) (d + 256 * rest) ≡ d ∷ bytes_of n rest
unfolding bytes_of
byte-before n d rest h =
    rw (add-mul-mod_self_left d 256 rest, add-mul-div_left d rest (lit< tt), mod-eq_of_lt h, div-eq_of_lt h, zero-add)

-- the number that bytes spell has those bytes, and the bytes of a number spell what they hold of it
pub bytes_back : (n : ℕ) (xs : List ℕ) → n ≤ length xs → AreBytes xs
    → bytes_of n (little_endian (take n xs)) ≡ take n xs
unfolding bytes_of little_endian
bytes_back zero xs h bytes = refl
bytes_back (suc n) [] h bytes = absurd (omega arith)
bytes_back (suc n) (x ∷ xs) h bytes =
    byte-before n x (little_endian (take n xs)) (bytes 0)
    ∙ ap (λ (l : List ℕ). x ∷ l) (bytes_back n xs (omega arith) (λ i. bytes (suc i)))

pub number-back : (n value : ℕ) → little_endian (bytes_of n value) ≡ value % 256 ^ n
unfolding bytes_of little_endian
number-back zero value = sym (mod-one value)
number-back (suc n) value =
    rw (number-back n (value / 256), pow-suc 256 n, mod-mul value {m = 256 ^ n} {c = 256} (one-le-pow n 256 (lit< tt)) (lit< tt))
    (add_comm (value % 256) _ ∙ rw (mul_comm 256 (value / 256 % 256 ^ n)))

pub bytes-taken : (n : ℕ) (xs : List ℕ) → AreBytes xs → AreBytes (take n xs)
bytes-taken zero xs bytes i = lit< tt
bytes-taken (suc n) [] bytes i = lit< tt
bytes-taken (suc n) (x ∷ xs) bytes zero = bytes 0
bytes-taken (suc n) (x ∷ xs) bytes (suc i) = bytes-taken n xs (λ j. bytes (suc j)) i

pub no_bits : (high low : ℕ) → bits 0 high low ≡ 0
no_bits high low = past_top 0 0 high {low = low} (lit< tt) (omega arith)

-- a field from byte n up
pub from_byte : (n : ℕ) (xs : List ℕ) → AreBytes xs → (high low : ℕ)
    → bits (little_endian xs) (8 * n + high) (8 * n + low) ≡ bits (little_endian (drop n xs)) high low
unfolding little_endian
from_byte zero xs bytes high low = rw (zero-add high, zero-add low)
from_byte (suc n) [] bytes high low = no_bits (8 * suc n + high) (8 * suc n + low) ∙ sym (no_bits high low)
from_byte (suc n) (x ∷ xs) bytes high low =
    let top : 8 * suc n + high ≡ 8 + (8 * n + high) = omega arith in
    let end : 8 * suc n + low ≡ 8 + (8 * n + low) = omega arith in
    rw (top, end, above-digit 8 (little_endian xs) (bytes 0) (8 * n + high) (8 * n + low))
    (from_byte n xs (λ i. bytes (suc i)) high low)

first_byte : (xs : List ℕ) → AreBytes xs → (high low : ℕ) → high < 8 → bits (little_endian xs) high low ≡ bits (get_or xs 0 0) high low
unfolding little_endian
first_byte [] bytes high low h = refl
first_byte (x ∷ xs) bytes high low h = in-digit 8 (little_endian xs) (bytes 0) high low h

-- a field within byte n
pub in-byte : (n : ℕ) (xs : List ℕ) → AreBytes xs → (high low : ℕ) → high < 8
    → bits (little_endian xs) (8 * n + high) (8 * n + low) ≡ bits (get_or xs n 0) high low
in-byte n xs bytes high low h =
    from_byte n xs bytes high low
    ∙ first_byte (drop n xs) (λ i. rw get_or-drop (bytes (n + i))) high low h
    ∙ ap (λ (b : ℕ). bits b high low) (get_or-drop n xs 0 0 ∙ ap (λ (i : ℕ). get_or xs i 0) (add-zero n))
