-- Two rights as a number's two low bits: R is bit 0, W bit 1.
use Prim.Native.Nat.{ℕ, zero, suc, ◌+◌, ◌-◌, ◌*◌, ◌/◌, ◌%◌, ◌^◌, ◌<◌, min}
use mathlib.Core.Bool.{Bool, true, false, not, ◌&&◌, ◌||◌, or-false}
use mathlib.Core.Path.{◌≡◌, refl, ap, sym, ◌∙◌}
use native.Mathlib.Omega.{arith}
use native.Mathlib.Nat.{div-one, zero-min}
use borrow.Author.Tests.{ne_eqb}
use lib.Arith.{mod-mul}
use lib.Bits.{bit_and, and_shr, and_mod, and_step}
use lib.Dec.{eqb, lit≤}
use mir.Val.{bool_byte}
use Rattle.image.specs.Bits.{bits, bit}

-- of two digits
digit : (x y : ℕ) → x < 2 → y < 2 → eqb (bit_and x y) 1 ≡ (eqb x 1 && eqb y 1)
digit zero y hx hy = refl
digit (suc zero) zero hx hy = refl
digit (suc zero) (suc zero) hx hy = refl
digit (suc zero) (suc (suc y)) hx hy = absurd (omega arith)
digit (suc (suc x)) y hx hy = absurd (omega arith)

-- a bit is common to two numbers
pub bit-and : (a b k : ℕ) → bit (bit_and a b) k ≡ (bit a k && bit b k)
unfolding bits
bit-and a b k =
    let one : suc k - k ≡ 1 = omega arith in
    rw one
    (ap (λ (n : ℕ). eqb n 1) (ap (λ (n : ℕ). n % 2) (and_shr a b k) ∙ and_mod (a / 2 ^ k) (b / 2 ^ k) 1)
    ∙ digit (a / 2 ^ k % 2) (b / 2 ^ k % 2) (omega arith) (omega arith))

-- no right is left, or one is
pub none_left : (r : ℕ) → bits r 1 0 ≡ 0 → not (bit r 0 || bit r 1) ≡ true
unfolding bits
none_left r none = rw (ne_eqb (r / 1 % 2) 1 (λ z. omega arith), ne_eqb (r / 2 % 2) 1 (λ z. omega arith))

pub some_left : (r : ℕ) → (bits r 1 0 ≡ 0 → ⊥) → not (bit r 0 || bit r 1) ≡ false
unfolding bits
some_left r some =
    let four : r % 4 ≡ r / 2 % 2 * 2 + r % 2 = mod-mul r (lit≤ tt) (lit≤ tt) in
    ap (λ (n : ℕ). not (eqb (n % 2) 1 || eqb (r / 2 % 2) 1)) (div-one r)
    ∙ by (r % 2) (r / 2 % 2) (omega arith) (omega arith) (λ none. some (ap (λ (n : ℕ). n % 4) (div-one r) ∙ four ∙ omega arith))
  where
    by : (x y : ℕ) → x < 2 → y < 2 → (x + 2 * y ≡ 0 → ⊥) → not (eqb x 1 || eqb y 1) ≡ false
    by zero zero hx hy h = absurd (h refl)
    by zero (suc zero) hx hy h = refl
    by zero (suc (suc y)) hx hy h = absurd (omega arith)
    by (suc zero) y hx hy h = refl
    by (suc (suc x)) y hx hy h = absurd (omega arith)

-- one right, and both
alone : (d : ℕ) → d < 2 → (eqb (0 + min 1 d) 1 ≡ eqb d 1) × (eqb ((0 + min 1 d) * 2 + 0) 2 ≡ eqb d 1)
alone zero h = (refl, refl)
alone (suc zero) h = (refl, refl)
alone (suc (suc d)) h = absurd (omega arith)

both : (x y : ℕ) → x < 2 → y < 2 → eqb ((0 + min 1 y) * 2 + min 1 x) 3 ≡ (eqb y 1 && eqb x 1)
both zero zero hx hy = refl
both zero (suc zero) hx hy = refl
both (suc zero) zero hx hy = refl
both (suc zero) (suc zero) hx hy = refl
both (suc (suc x)) y hx hy = absurd (omega arith)
both zero (suc (suc y)) hx hy = absurd (omega arith)
both (suc zero) (suc (suc y)) hx hy = absurd (omega arith)

-- what is common to such a number and another, from its two low bits
and_one : (e : ℕ) → bit_and 1 e ≡ 0 + min 1 (e % 2)
and_one e = and_step 1 e

and_two : (e : ℕ) → bit_and 2 e ≡ (0 + min 1 (e / 2 % 2)) * 2 + min 0 (e % 2)
and_two e = and_step 2 e ∙ ap (λ (n : ℕ). n * 2 + min 0 (e % 2)) (and_one (e / 2))

and_three : (e : ℕ) → bit_and 3 e ≡ (0 + min 1 (e / 2 % 2)) * 2 + min 1 (e % 2)
and_three e = and_step 3 e ∙ ap (λ (n : ℕ). n * 2 + min 1 (e % 2)) (and_one (e / 2))

not-both : (a b : Bool) → not (a && b) ≡ (not a || not b)
not-both true b = refl
not-both false b = refl

-- the rights that are wanted, as such a number: one of them lacks
pub one-lacks : (read write : Bool) (e : ℕ)
    → not (eqb (bit_and (bool_byte read + 2 * bool_byte write) e) (bool_byte read + 2 * bool_byte write)) ≡ (write && not (bit e 1) || read && not (bit e 0))
unfolding bits
one-lacks false false e = refl
one-lacks true false e =
    ap (λ (n : ℕ). not (eqb n 1)) (and_one e) ∙ ap not (alone (e % 2) (omega arith)).0 ∙ ap (λ (n : ℕ). not (eqb (n % 2) 1)) (sym (div-one e))
one-lacks false true e =
    ap (λ (n : ℕ). not (eqb n 2)) (and_two e)
    ∙ ap (λ (n : ℕ). not (eqb ((0 + min 1 (e / 2 % 2)) * 2 + n) 2)) (zero-min (e % 2)) ∙ ap not (alone (e / 2 % 2) (omega arith)).1 ∙ sym (or-false (not (eqb (e / 2 % 2) 1)))
one-lacks true true e =
    ap (λ (n : ℕ). not (eqb n 3)) (and_three e)
    ∙ ap not (both (e % 2) (e / 2 % 2) (omega arith) (omega arith))
    ∙ not-both (eqb (e / 2 % 2) 1) (eqb (e % 2) 1)
    ∙ ap (λ (n : ℕ). not (eqb (e / 2 % 2) 1) || not (eqb (n % 2) 1)) (sym (div-one e))
