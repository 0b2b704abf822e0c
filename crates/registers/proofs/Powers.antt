-- Powers of two and the shifts that stand for them.
use Prim.Native.Nat.{ℕ, suc, ◌-◌, ◌*◌, ◌/◌, ◌%◌, ◌^◌, ◌<◌, ◌≤◌}
use mathlib.Core.Path.{◌≡◌, refl, sym, ap, ◌∙◌}
use mathlib.Core.Bool.{Bool, true, false, not}
use native.Mathlib.Nat.{le-div_iff_mul-le, div-eq_of_lt, mod-eq_of_lt, one-mul, div-one, lt_of_lt_of_le, mul-mod_left}
use native.Mathlib.Omega.{arith}
use native.Mathlib.Decide.{dec_le}
use borrow.Author.Tests.{leb-true, leb-false, lt-leb, eq-eqb, ne_eqb}
use lib.Dec.{leb, eqb}
use lib.Pow.{pow_pos, pow_mono, pow-lt, pow-add}
use Rattle.image.specs.Bits.{bits, any_set}
use Rattle.image.proofs.Fields.{upside-down, below_top, whole}

-- a number is at or above 2^n exactly when its bits from n up are not all clear
pub shifted : (n a : ℕ) → not (eqb (a / 2 ^ n) 0) ≡ leb (2 ^ n) a
shifted n a = go (leb (2 ^ n) a) refl
  where
    go : (t : Bool) → leb (2 ^ n) a ≡ t → not (eqb (a / 2 ^ n) 0) ≡ t
    go true e =
        let one : 1 ≤ a / 2 ^ n = (le-div_iff_mul-le (pow_pos n)).1 (rw one-mul (leb-true _ _ e)) in
        ap not (ne_eqb (a / 2 ^ n) 0 (λ z. omega arith))
    go false e = ap not (eq-eqb (a / 2 ^ n) 0 (div-eq_of_lt (leb-false _ _ e)))

-- some bit of high:low is set exactly when what stands in high:0 is at or above 2^low
pub field-above : (e : ℕ) {high low : ℕ} → low ≤ suc high → any_set e high low ≡ leb (2 ^ low) (bits e high 0)
field-above e {high} {low} ordered =
    let part = e % 2 ^ suc high in
    let all : bits e high 0 ≡ part = below_top e high 0 (omega arith) ∙ div-one part in
    ap (λ (n : ℕ). not (eqb n 0)) (below_top e high low ordered)
    ∙ shifted low part
    ∙ ap (leb (2 ^ low)) (sym all)

-- the same of a whole number that ends at bit high, as an address with its bits from HAW to 63
pub top_above : {e high low : ℕ} → e < 2 ^ suc high → low ≤ suc high → any_set e high low ≡ leb (2 ^ low) e
top_above {e} {high} {low} h ordered = field-above e ordered ∙ ap (leb (2 ^ low)) (whole e high h)

-- no number of k bits is at or above a power past them
pub beyond : {k n a : ℕ} → a < 2 ^ k → k ≤ n → leb (2 ^ n) a ≡ false
beyond h l = lt-leb _ _ (lt_of_lt_of_le h (pow_mono l))

-- in a word, some bit from n to 63 is set exactly when the word is at or above 2^n, for any n: address bits from HAW up
pub from-bit : (n : ℕ) {w : ℕ} → w < 2 ^ 64 → any_set w 63 n ≡ leb (2 ^ n) w
from-bit n {w} h = go (dec_le n 64)
  where
    go : Dec (n ≤ 64) → any_set w 63 n ≡ leb (2 ^ n) w
    go (yes within) = top_above h within
    go (no past) = rw (upside-down w {high = 63} {low = n} (omega arith)) (sym (beyond {k = 64} {n = n} h (omega arith)))

-- 2^n kept in k bits is itself where n is below k
pub kept : {k n : ℕ} → n < k → 2 ^ n % 2 ^ k ≡ 2 ^ n
kept h = mod-eq_of_lt (pow-lt h)

-- and 0 from k up
pub lost : {k n : ℕ} → k ≤ n → 2 ^ n % 2 ^ k ≡ 0
lost {k} {n} h =
    let split : 2 ^ n ≡ 2 ^ (n - k) * 2 ^ k = ap (λ (x : ℕ). 2 ^ x) (omega arith) ∙ pow-add 2 (n - k) k in
    rw split (mul-mod_left (2 ^ (n - k)) (2 ^ k))
