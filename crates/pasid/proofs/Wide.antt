-- A reserved field of more than a word, by its parts.
use Prim.Native.Nat.{ℕ, suc, ◌+◌, ◌-◌, ◌*◌, ◌/◌, ◌%◌, ◌^◌, ◌<◌}
use mathlib.Core.Bool.{Bool, true, false, not, ◌||◌}
use mathlib.Core.Path.{◌≡◌, refl, ap, ◌∙◌}
use native.Mathlib.Nat.{mul-pos, zero-mul}
use native.Mathlib.Omega.{arith}
use borrow.Author.Tests.{eqb-true, eqb-false, eq-eqb, ne_eqb}
use lib.Dec.{eqb}
use lib.Pow.{pow_pos, shr-shr, mod-pow-add}
use Rattle.image.specs.Bits.{bits, any_set}

some-part : (a b p : ℕ) → 0 < p → not (eqb (a * p + b) 0) ≡ (not (eqb b 0) || not (eqb a 0))
some-part a b p more = by (eqb b 0) refl (eqb a 0) refl
  where
    by : (s : Bool) → eqb b 0 ≡ s → (t : Bool) → eqb a 0 ≡ t → not (eqb (a * p + b) 0) ≡ (not s || not t)
    by true is true none =
        let a0 : a * p ≡ 0 = rw (eqb-true a 0 none) (zero-mul p) in
        ap not (eq-eqb (a * p + b) 0 (omega (arith, eqb-true b 0 is)))
    by true is false some =
        let positive : 0 < a = omega (arith, eqb-false a 0 some) in
        let product : 0 < a * p = mul-pos positive more in
        ap not (ne_eqb (a * p + b) 0 (λ z. omega (arith, z, product)))
    by false is t some = ap not (ne_eqb (a * p + b) 0 (λ z. eqb-false b 0 is (omega (arith, z))))

-- a field of two parts, the lower of k + 1 bits and the upper of j + 1
pub two-parts : (e low k j : ℕ)
    → any_set e (low + suc k + j) low ≡ (any_set e (low + k) low || any_set e (low + suc k + j) (low + suc k))
unfolding bits
two-parts e low k j =
    let all : suc (low + suc k + j) - low ≡ suc j + suc k = omega arith in
    let lower : suc (low + k) - low ≡ suc k = omega arith in
    let upper : suc (low + suc k + j) - (low + suc k) ≡ suc j = omega arith in
    rw (all, lower, upper, mod-pow-add (e / 2 ^ low) (suc j) (suc k), shr-shr e low (suc k))
    (some-part (e / 2 ^ (low + suc k) % 2 ^ suc j) (e / 2 ^ low % 2 ^ suc k) (2 ^ suc k) (pow_pos (suc k)))

-- bits 255:85 of a context entry
pub context-upper : (e : ℕ) → any_set e 255 85 ≡ (any_set e 127 85 || (any_set e 191 128 || any_set e 255 192))
context-upper e = two-parts e 85 42 127 ∙ ap (λ t. any_set e 127 85 || t) (two-parts e 128 63 63)
