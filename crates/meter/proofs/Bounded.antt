-- A load from 0 to 131,070 stays there, whatever is rounded: rounding keeps the order, and 65,535 and 131,070 are not rounded.
use Prim.Native.Nat.{ℕ, zero, suc, ◌+◌, ◌-◌, ◌*◌, ◌^◌, ◌≤◌, ◌<◌}
use mathlib.Core.Bool.{Bool, true, false, not, cond, ◌&&◌, ◌||◌}
use mathlib.Core.Logic.{◌⊎◌, inl, inr}
use mathlib.Core.Path.{◌≡◌, refl, ap, sym, ◌∙◌, subst}
use native.Mathlib.Nat.{zero-mul, mul-one, one-mul, le_of_lt, le_of_eq, mul-pos, mul-le-mul_right}
use native.Mathlib.Omega.{arith}
use borrow.Author.Tests.{ltb-false, le-ltb}
use lib.Dec.{T, lit<, lit≤, ltb, eqb, ltb→lt, eqb→eq}
use lib.IntN.{ℤ, pos}
use lib.Pow.{pow_pos}
use lib.Ieee.{Float, nan, inf, fin, binary64, prec, emax, low, up, down, units, round, sum, add, sub, neg, mul, eq, le, of_int, of_bits, of_fields, odd, size, span, climb}
use lib.Ieee.Exact.{HasValue}
use lib.Ieee.Fits.{round_is, and_l, down_pos}
use lib.Ieee.Order.{transfer, round_mono}
use lib.Ieee.Scale.{round_same, round_val, round_under, grid, finite}
use Rattle.meter.specs.Meter.{nought, one_half, most, tick_load}
use Rattle.meter.specs.Refused.{finite as is_finite}
use Rattle.meter.specs.Runs.{InRange}
use Rattle.meter.proofs.Exactly.{mul-of, add-of, half-value, count-value, never}

or_split : (a b : Bool) → T (a || b) → T a ⊎ T b
or_split true b t = inl tt
or_split false b t = inr t

lt-or-eq : (a b : ℕ) → T (ltb a b || (eqb a b && true)) → a ≤ b
lt-or-eq a b t = elim (or_split (ltb a b) (eqb a b && true) t) [ inl u ↦ le_of_lt (ltb→lt a b u) | inr u ↦ le_of_eq (eqb→eq a b (and_l (eqb a b) true u)) ]

-- the order of two values that are not negative, zeros included, by any fractions that they equal
le-cross : (x y : Float) (a c b d : ℕ) → HasValue x false a c → HasValue y false b d → T (le x y) → a * d ≤ b * c
unfolding le
le-cross nan y a c b d h k l = absurd h
le-cross (inf s) y a c b d h k l = absurd h
le-cross (fin true m e) y a c b d h k l = never h.0
le-cross (fin false m e) nan a c b d h k l = absurd k
le-cross (fin false m e) (inf t) a c b d h k l = absurd k
le-cross (fin false m e) (fin true n g) a c b d h k l = never k.0
le-cross (fin false m e) (fin false n g) a c b d h k l =
    transfer a b c d (m * up e) (n * up g) (down e) (down g) (down_pos e) (down_pos g) (sym h.1) (sym k.1)
    (lt-or-eq (m * up e * down g) (n * up g * down e) l)

odd-finite : (d q k l : ℕ) → T (finite (odd d false q k l))
unfolding odd
odd-finite d zero k l = tt
odd-finite d (suc q) k l = tt

-- what rounds to no more than a number is no infinity
units-finite : (q k : ℕ) (t : Bool) (n : ℕ) (g : ℤ) → T (le (units binary64 false q k) (fin t n g)) → T (finite (units binary64 false q k))
unfolding units le
units-finite q k t n g = go (ltb (q * 2 ^ k) (2 ^ (low binary64 + suc (emax binary64))))
  where
    go : (b : Bool) → T (le (cond b (odd (suc (prec binary64)) false q k (low binary64)) (inf false)) (fin t n g))
        → T (finite (cond b (odd (suc (prec binary64)) false q k (low binary64)) (inf false)))
    go true h = odd-finite (suc (prec binary64)) q k (low binary64)
    go false h = absurd h

most-value : HasValue most false 131070 1
unfolding of_bits of_fields odd
most-value = (refl, refl)

nought-is : round binary64 false 0 1 ≡ nought
unfolding round size span climb units odd of_bits of_fields
nought-is = refl

most-is : round binary64 false 131070 1 ≡ most
unfolding round size span climb units odd of_bits of_fields
most-is = refl

-- a fraction of no more than 65,535 rounds to one
small : (a c : ℕ) → 0 < c → a ≤ 65535 * c
    → HasValue (round binary64 false a c) false (grid binary64 a c) (2 ^ 1074) × (grid binary64 a c ≤ 65535 * 2 ^ 1074)
small a c C h =
    let limit = of_int binary64 (pos 65535) in
    let limit-value : HasValue limit false 65535 1 = count-value 65535 (lit≤ tt) in
    let under : T (le (round binary64 false a c) limit) = under-it in
    let value = round_val binary64 a c (round_under binary64 a c (finite-it limit limit-value under)) in
    (value, rw (← mul-one (grid binary64 a c)) (le-cross (round binary64 false a c) limit (grid binary64 a c) (2 ^ 1074) 65535 1 value limit-value under))
  where
    finite-it : (y : Float) → HasValue y false 65535 1 → T (le (round binary64 false a c) y) → T (finite (round binary64 false a c))
    finite-it nan v l = absurd v
    finite-it (inf s) v l = absurd v
    finite-it (fin t n g) v l =
        subst (λ (z : Float). T (finite z)) (sym (round_is binary64 false a c))
        (units-finite _ _ t n g (subst (λ (z : Float). T (le z (fin t n g))) (round_is binary64 false a c) l))

    under-it : T (le (round binary64 false a c) (of_int binary64 (pos 65535)))
    under-it = unfold of_int in round_mono binary64 a c 65535 1 C (lit< tt) (omega arith)

-- omega meets no number of more than 38 digits, so 2^1074 is a variable here
total : (g count unit : ℕ) → g ≤ 65535 * unit → count * unit ≤ 65535 * unit → (g * 1 + count * unit) * 1 ≤ 131070 * (unit * 1)
total g count unit h k = omega arith

from-nought : (n d : ℕ) → 0 * d ≤ n
from-nought n d = omega (arith, zero-mul d)

in-range : (n d : ℕ) → 0 < d → n * 1 ≤ 131070 * d → InRange (round binary64 false n d)
in-range n d D h = (
  subst (λ (y : Float). T (le y (round binary64 false n d))) nought-is (round_mono binary64 0 1 n d (lit< tt) D (from-nought (n * 1) d)),
  subst (λ (y : Float). T (le (round binary64 false n d) y)) most-is (round_mono binary64 n d 131070 1 D (lit< tt) h),
)

-- a load that is a / c
module _ (x : Float) (a c count : ℕ) (C : 0 < c) (value : HasValue x false a c) (load : a ≤ 131070 * c) (few : count ≤ 65535) where
  pub stays-positive : InRange (tick_load x count)
  stays-positive =
      let halved : mul binary64 x one_half ≡ round binary64 false a (c * 2) =
      mul-of binary64 x one_half a c 1 2 C (lit< tt) value half-value ∙ ap (λ (i : ℕ). round binary64 false i (c * 2)) (mul-one a) in
      let s = small a (c * 2) (omega arith) (omega arith) in
      let g = grid binary64 a (c * 2) in
      let exact = subst (λ (y : Float). HasValue y false g (2 ^ 1074)) (sym halved) s.0 in
      let added : tick_load x count ≡ round binary64 false (g * 1 + count * 2 ^ 1074) (2 ^ 1074 * 1) =
      add-of binary64 (mul binary64 x one_half) (of_int binary64 (pos count)) g (2 ^ 1074) count 1 (pow_pos 1074) (lit< tt) exact (count-value count (omega arith)) in
      let scaled : count * 2 ^ 1074 ≤ 65535 * 2 ^ 1074 = mul-le-mul_right (2 ^ 1074) few in
      subst InRange (sym added)
      (in-range (g * 1 + count * 2 ^ 1074) (2 ^ 1074 * 1) (mul-pos {n = 1} (pow_pos 1074) (lit< tt)) (total g count (2 ^ 1074) s.1 scaled))

-- -0, which is from 0 on too
sum-nought : (a b c : ℕ) → a ≡ 0 → cond (ltb a b) (round binary64 false (b - a) c) (round binary64 (ltb b a) (a - b) c) ≡ round binary64 false b c
sum-nought a b c none = go (ltb a b) refl
  where
    go : (t : Bool) → ltb a b ≡ t → cond t (round binary64 false (b - a) c) (round binary64 (ltb b a) (a - b) c) ≡ round binary64 false b c
    go true e = let all : b - a ≡ b = omega arith in rw all
    go false e =
        let past = ltb-false a b e in
        let same : a - b ≡ b = omega arith in
        rw (same, le-ltb b a (omega arith))

add-minus : (y : Float) (b d : ℕ) → 0 < d → HasValue y false b d → add binary64 (fin true 0 (pos 0)) y ≡ round binary64 false b d
unfolding add sum
add-minus nan b d D h = absurd h
add-minus (inf s) b d D h = absurd h
add-minus (fin true n g) b d D h = never h.0
add-minus (fin false n g) b d D h =
    sum-nought (0 * 1 * down g) (n * up g * 1) (1 * down g) (zero-mul (down g))
    ∙ round_same binary64 false (n * up g * 1) (1 * down g) b d (mul-pos (lit< tt) (down_pos g)) D
    (ap (λ (i : ℕ). i * d) (mul-one (n * up g)) ∙ h.1 ∙ ap (λ (i : ℕ). b * i) (sym (one-mul (down g))))

minus_is : round binary64 true 0 1 ≡ fin true 0 (pos 0)
unfolding round size span climb units odd
minus_is = refl

half-minus : (m : ℕ) (e : ℤ) → m * up e ≡ 0 → mul binary64 (fin true m e) one_half ≡ fin true 0 (pos 0)
unfolding mul of_bits of_fields odd
half-minus m e none =
    round_same binary64 true (m * up e * (1 * 1)) (down e * 2) 0 1 (mul-pos (down_pos e) (lit< tt)) (lit< tt)
    (ap (λ (i : ℕ). i * (1 * 1) * 1) none ∙ sym (zero-mul (down e * 2)))
    ∙ minus_is

stays-minus : (m : ℕ) (e : ℤ) (count : ℕ) → m * up e ≡ 0 → count ≤ 65535 → InRange (tick_load (fin true m e) count)
stays-minus m e count none few =
    subst InRange
    (sym (ap (λ (y : Float). add binary64 y (of_int binary64 (pos count))) (half-minus m e none)
    ∙ add-minus (of_int binary64 (pos count)) count 1 (lit< tt) (count-value count (omega arith))))
    (in-range count 1 (lit< tt) (omega arith))

-- from 0 on: no NaN, no infinity, nothing below zero
pub stays-bounded : (x : Float) (count : ℕ) → InRange x → count ≤ 65535 → InRange (tick_load x count)
unfolding le of_bits of_fields odd
stays-bounded nan count h few = absurd h.0
stays-bounded (inf true) count h few = absurd h.0
stays-bounded (inf false) count h few = absurd h.1
stays-bounded (fin false m e) count h few =
    stays-positive (fin false m e) (m * up e) (down e) count (down_pos e) (refl, refl)
    (rw (← mul-one (m * up e)) (le-cross (fin false m e) most (m * up e) (down e) 131070 1 (refl, refl) most-value h.1)) few
stays-bounded (fin true m e) count h few =
    stays-minus m e count (sym (sym (zero-mul (down e)) ∙ eqb→eq (0 * down e) (m * up e * 1) (and_l (eqb (0 * down e) (m * up e * 1)) (eqb (0 * down e) 0) h.0) ∙ mul-one (m * up e))) few

-- ---- a float less itself
sum_self : (s : Bool) (a c : ℕ) → 0 < c → sum binary64 s a (not s) a c ≡ nought
unfolding sum
sum_self true a c C =
    let none : a - a ≡ 0 = omega arith in
    rw (le-ltb a a (omega arith), none) (round_same binary64 false 0 c 0 1 C (lit< tt) (sym (zero-mul c)) ∙ nought-is)
sum_self false a c C =
    let none : a - a ≡ 0 = omega arith in
    rw (le-ltb a a (omega arith), none) (round_same binary64 false 0 c 0 1 C (lit< tt) (sym (zero-mul c)) ∙ nought-is)

pub self-less : (x : Float) → eq (sub binary64 x x) nought ≡ is_finite x
unfolding eq sub add neg of_bits of_fields odd
self-less nan = refl
self-less (inf true) = refl
self-less (inf false) = refl
self-less (fin s m e) = rw (sum_self s (m * up e * down e) (down e * down e) (mul-pos (down_pos e) (down_pos e)))
