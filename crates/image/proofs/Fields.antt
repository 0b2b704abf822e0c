-- Fields of numbers, and of an entry in terms of its words.
use Rattle.std.proofs.Common.{◌≡◌, ℕ, suc, ◌+◌, ◌-◌, ◌*◌, ◌/◌, ◌%◌, ◌^◌, ◌<◌, ◌≤◌, List, [], ◌∷◌, sym, ap, ◌∙◌, le_trans, le_refl, lt_of_lt_of_le, add-zero, mul-le-mul_right, mod-lt, mod-eq_of_lt, add_comm, one-mul, div-mul-le_self, div-one, arith, lit<, pow_pos, pow_mono, shl_lt, shr-shr, shr_lt}
use native.Mathlib.Nat.{mod-one, zero-mod, div-eq_of_lt, mul-add-mod_self_left, mul-add-div, mod-le}
use native.Mathlib.Decide.{dec_le}
use lib.Pow.{pow-lt, field, mod-mod-pow}
use Rattle.image.specs.Bits.{bits}
use Rattle.image.specs.Bytes.{spell}

-- a field whose low bit is above its high bit is 0
pub upside-down : (e : ℕ) {high low : ℕ} → high < low → bits e high low ≡ 0
unfolding bits
upside-down e {high} {low} h =
    let none : suc high - low ≡ 0 = omega arith in
    rw none (mod-one (e / 2 ^ low))

-- a field past the top of the number is 0
pub past_top : (e width high : ℕ) {low : ℕ} → e < 2 ^ width → width ≤ low → bits e high low ≡ 0
unfolding bits
past_top e width high {low} h past =
    rw (div-eq_of_lt (lt_of_lt_of_le h (pow_mono past))) (zero-mod (2 ^ (suc high - low)))

-- a field that reaches to the top of the number is all that is left above its low bit
pub to-top : (e width high low : ℕ) → e < 2 ^ width → width ≤ suc high → low ≤ suc high → bits e high low ≡ e / 2 ^ low
unfolding bits
to-top e width high low h top ordered =
    let sum : (suc high - low) + low ≡ suc high = omega arith in
    mod-eq_of_lt (shr_lt (suc high - low) low (rw sum (lt_of_lt_of_le h (pow_mono top))))

-- a field is the number below its top, shifted down
pub below_top : (e high low : ℕ) → low ≤ suc high → bits e high low ≡ e % 2 ^ suc high / 2 ^ low
unfolding bits
below_top e high low ordered =
    let sum : (suc high - low) + low ≡ suc high = omega arith in
    sym (field e (suc high - low) low) ∙ ap (λ (n : ℕ). e % 2 ^ n / 2 ^ low) sum

-- the whole of a number that is below 2^(high + 1)
pub whole : (e high : ℕ) → e < 2 ^ suc high → bits e high 0 ≡ e
whole e high h = to-top e (suc high) high 0 h (le_refl (suc high)) (omega arith) ∙ div-one e

-- a field of so many bits is below that power of two
pub fits : (e high low : ℕ) → bits e high low < 2 ^ (suc high - low)
unfolding bits
fits e high low = mod-lt (e / 2 ^ low) (pow_pos (suc high - low))

-- a field in its place is at most the number
pub in-place-le : (e high low : ℕ) → bits e high low * 2 ^ low ≤ e
unfolding bits
in-place-le e high low =
    le_trans (mul-le-mul_right (2 ^ low) (mod-le (e / 2 ^ low) (2 ^ (suc high - low)))) (div-mul-le_self e (2 ^ low))

-- and below the power of two above its top
pub in-place-lt : (e high low : ℕ) → low ≤ suc high → bits e high low * 2 ^ low < 2 ^ suc high
in-place-lt e high low ordered =
    let sum : (suc high - low) + low ≡ suc high = omega arith in
    rw sum at (shl_lt (suc high - low) low (fits e high low))

-- a power of two by a shift
pub shifted_one : (k : ℕ) → k < 64 → (1 * 2 ^ k) % 2 ^ 64 ≡ 2 ^ k
shifted_one k h = rw (one-mul (2 ^ k)) (mod-eq_of_lt (pow-lt h))

-- a number with a digit of k bits below the rest of it
module _ {d : ℕ} (k rest : ℕ) (digit : d < 2 ^ k) where
  -- a field of the digit
  pub in-digit : (high low : ℕ) → high < k → bits (d + 2 ^ k * rest) high low ≡ bits d high low
  in-digit high low h = go (dec_le low (suc high))
    where
      sum : (k - suc high) + suc high ≡ k
      sum = omega arith

      same : (d + 2 ^ k * rest) % 2 ^ suc high ≡ d % 2 ^ suc high
      same =
          sym (mod-mod-pow (d + 2 ^ k * rest) (k - suc high) (suc high))
          ∙ ap (λ (n : ℕ). (d + 2 ^ k * rest) % 2 ^ n % 2 ^ suc high) sum
          ∙ ap (λ (n : ℕ). n % 2 ^ suc high) (ap (λ (n : ℕ). n % 2 ^ k) (add_comm d (2 ^ k * rest)) ∙ mul-add-mod_self_left (2 ^ k) rest d ∙ mod-eq_of_lt digit)

      go : Dec (low ≤ suc high) → bits (d + 2 ^ k * rest) high low ≡ bits d high low
      go (yes ordered) =
          below_top (d + 2 ^ k * rest) high low ordered ∙ ap (λ (n : ℕ). n / 2 ^ low) same ∙ sym (below_top d high low ordered)
      go (no crossed) = upside-down (d + 2 ^ k * rest) (omega arith) ∙ sym (upside-down d (omega arith))

  -- a field of the rest
  pub above-digit : (high low : ℕ) → bits (d + 2 ^ k * rest) (k + high) (k + low) ≡ bits rest high low
  unfolding bits
  above-digit high low =
      let width : suc (k + high) - (k + low) ≡ suc high - low = omega arith in
      let all : (d + 2 ^ k * rest) / 2 ^ k ≡ rest =
      ap (λ (n : ℕ). n / 2 ^ k) (add_comm d (2 ^ k * rest)) ∙ mul-add-div (pow_pos k) rest d ∙ ap (λ (n : ℕ). rest + n) (div-eq_of_lt digit) ∙ add-zero rest in
      rw (width, ← shr-shr (d + 2 ^ k * rest) k low, all)

module _ {w : ℕ} (ws : List ℕ) (word : w < 2 ^ 64) where
  -- a field of the lowest word
  pub in-first : (high low : ℕ) → high < 64 → bits (spell (w ∷ ws)) high low ≡ bits w high low
  unfolding spell
  in-first = in-digit 64 (spell ws) word

  -- a field of the words after it
  pub in_rest : (high low : ℕ) → bits (spell (w ∷ ws)) (64 + high) (64 + low) ≡ bits (spell ws) high low
  unfolding spell
  in_rest = above-digit 64 (spell ws) word

-- an entry of 16 bytes: a field of its low word, a field of its high word, and all of the high word
module _ {low_word high_word_lem : ℕ} (l : low_word < 2 ^ 64) (h : high_word_lem < 2 ^ 64) where
  pub low_field : (high low : ℕ) → high < 64
      → bits (spell (low_word ∷ high_word_lem ∷ [])) high low ≡ bits low_word high low
  low_field = in-first (high_word_lem ∷ []) l

  pub high-field : (high low : ℕ) → high < 64
      → bits (spell (low_word ∷ high_word_lem ∷ [])) (64 + high) (64 + low) ≡ bits high_word_lem high low
  high-field high low top = in_rest (high_word_lem ∷ []) l high low ∙ in-first [] h high low top

  pub high-whole : bits (spell (low_word ∷ high_word_lem ∷ [])) 127 64 ≡ high_word_lem
  high-whole = high-field 63 0 (lit< tt) ∙ whole high_word_lem 63 h
