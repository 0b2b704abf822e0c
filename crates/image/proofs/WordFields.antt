-- A field of an entry of any number of words, in the word where it lies.
use Rattle.std.proofs.Common.{◌≡◌, ℕ, zero, suc, ◌+◌, ◌*◌, ◌/◌, ◌%◌, ◌^◌, ◌<◌, ◌≤◌, Bool, true, false, not, ◌||◌, eqb, List, [], ◌∷◌, length, get_or, drop, sym, refl, ap, ◌∙◌, add-zero, mul_comm, add_comm, zero-add, arith, get_or-drop, pow-add, eq-eqb, ne_eqb, eqb-true}
use borrow.Author.Tests.{eqb-false}
use lib.Arith.{digits_lt}
use Rattle.image.specs.Bits.{bits, in_one_word}
use Rattle.std.specs.Prelude.{if◌then◌else◌}
use Rattle.image.specs.Bytes.{spell}
use Rattle.image.proofs.Bytes.{no_bits}
use Rattle.image.proofs.Fields.{in-first, in_rest}
use Rattle.image.specs.Entry.{Words}

-- there is no word past the last
pub no_word : (ws : List ℕ) (n : ℕ) → length ws ≤ n → 0 ≡ get_or ws n 0
no_word [] n h = refl
no_word (w ∷ ws) zero h = absurd (omega arith)
no_word (w ∷ ws) (suc n) h = no_word ws n (omega arith)

-- a field from word n up
pub from-word : (n : ℕ) (ws : List ℕ) → Words ws → (high low : ℕ)
    → bits (spell ws) (64 * n + high) (64 * n + low) ≡ bits (spell (drop n ws)) high low
unfolding spell Words
from-word zero ws words high low = rw (zero-add high, zero-add low)
from-word (suc n) [] words high low = no_bits (64 * suc n + high) (64 * suc n + low) ∙ sym (no_bits high low)
from-word (suc n) (w ∷ ws) words high low =
    let top : 64 * suc n + high ≡ 64 + (64 * n + high) = omega arith in
    let end : 64 * suc n + low ≡ 64 + (64 * n + low) = omega arith in
    rw (top, end) (in_rest ws words.0 (64 * n + high) (64 * n + low) ∙ from-word n ws words.1 high low)

first_word : (ws : List ℕ) → Words ws → (high low : ℕ) → high < 64 → bits (spell ws) high low ≡ bits (get_or ws 0 0) high low
unfolding spell Words
first_word [] words high low h = refl
first_word (w ∷ ws) words high low h = in-first ws words.0 high low h

words-from : (n : ℕ) (ws : List ℕ) → Words ws → Words (drop n ws)
unfolding Words
words-from zero ws words = words
words-from (suc n) [] words = tt
words-from (suc n) (w ∷ ws) words = words-from n ws words.1

-- a field of word n
pub of_word : (n : ℕ) (ws : List ℕ) → Words ws → (high low : ℕ) → high < 64
    → bits (spell ws) (64 * n + high) (64 * n + low) ≡ bits (get_or ws n 0) high low
of_word n ws words high low h =
    from-word n ws words high low
    ∙ first_word (drop n ws) (words-from n ws words) high low h
    ∙ ap (λ (w : ℕ). bits w high low) (get_or-drop n ws 0 0 ∙ ap (λ (i : ℕ). get_or ws i 0) (add-zero n))

-- as the code reads it
pub in-word : (ws : List ℕ) → Words ws → (high low : ℕ)
    → (if in_one_word high low then bits (get_or ws (low / 64) 0) (high % 64) (low % 64) else 0) ≡ (if in_one_word high low then bits (spell ws) high low else 0)
in-word ws words high low = go (eqb (high / 64) (low / 64)) refl
  where
    go : (t : Bool) → eqb (high / 64) (low / 64) ≡ t
        → (if t then bits (get_or ws (low / 64) 0) (high % 64) (low % 64) else 0) ≡ (if t then bits (spell ws) high low else 0)
    go true same =
        let top : 64 * (low / 64) + high % 64 ≡ high = omega (arith, eqb-true (high / 64) (low / 64) same) in
        let end : 64 * (low / 64) + low % 64 ≡ low = omega arith in
        sym (of_word (low / 64) ws words (high % 64) (low % 64) (omega arith)) ∙ rw (top, end)
    go false other = refl

-- some bit of the field, as the code tests it
pub any-in-word : (t : Bool) (n : ℕ) → not (eqb (if t then n else 0) 0) ≡ (if t then not (eqb n 0) else false)
any-in-word true n = refl
any-in-word false n = refl

-- a number of so many words
pub words-below : (ws : List ℕ) → Words ws → spell ws < 2 ^ (64 * length ws)
unfolding spell Words
words-below [] words = omega arith
words-below (w ∷ ws) words =
    let more : 64 * suc (length ws) ≡ 64 * length ws + 64 = omega arith in
    rw (more, pow-add 2 (64 * length ws) 64, add_comm w (2 ^ 64 * spell ws), mul_comm (2 ^ 64) (spell ws))
    (digits_lt (words-below ws words.1) words.0)

-- some word is not 0
pub some_word : (w : ℕ) (ws : List ℕ) → not (eqb (spell (w ∷ ws)) 0) ≡ (not (eqb w 0) || not (eqb (spell ws) 0))
unfolding spell
some_word w ws = go (eqb w 0) refl (eqb (spell ws) 0) refl
  where
    go : (s : Bool) → eqb w 0 ≡ s → (t : Bool) → eqb (spell ws) 0 ≡ t
        → not (eqb (w + 2 ^ 64 * spell ws) 0) ≡ (not s || not t)
    go true e true f =
        let a : w ≡ 0 = eqb-true w 0 e in
        let b : spell ws ≡ 0 = eqb-true (spell ws) 0 f in
        ap not (eq-eqb (w + 2 ^ 64 * spell ws) 0 (omega arith))
    go true e false f =
        ap not (ne_eqb (w + 2 ^ 64 * spell ws) 0 (λ z. eqb-false (spell ws) 0 f (omega arith)))
    go false e t f =
        ap not (ne_eqb (w + 2 ^ 64 * spell ws) 0 (λ z. eqb-false w 0 e (omega arith)))
