-- The load's arithmetic: no rounding in the first 32 ticks after a reset, and never above 131,070.
use Prim.Native.Nat.{ℕ, zero, suc, ◌+◌, ◌-◌, ◌*◌, ◌^◌, ◌≤◌, ◌<◌}
use mathlib.Core.Bool.{true, false}
use mathlib.Core.Path.{◌≡◌, refl, ap, ap₂, sym, ◌∙◌, subst}
use mathlib.Core.List.{List, [], ◌∷◌}
use native.Mathlib.Nat.{zero-mul, mul_assoc, mul_comm, mul_left_comm, mul_right_comm, mul-one, add_comm, add-mul, mul-pos, eq_of_mul-eq-mul_right, lt_of_lt_of_le, mul-le-mul_right}
use native.Mathlib.Omega.{arith}
use lib.Dec.{lit<, lit≤}
use lib.IntN.{pos}
use lib.ListN.{length}
use lib.Pow.{pow-add, pow_pos, pow_mono, shl_lt}
use lib.Ieee.{Float, nan, inf, fin, Format, binary64, up, down, round, sum, add, mul, of_int, of_bits, of_fields, odd}
use lib.Ieee.Back.{round_whole}
use lib.Ieee.Exact.{HasValue, round_exact}
use lib.Ieee.Fits.{down_pos}
use lib.Ieee.Scale.{round_same}
use Rattle.meter.specs.Meter.{nought, one_half, tick_load}
use Rattle.meter.specs.Runs.{weighed_by_halving, quiet}

-- the load after a reset and these counts, the newest first
unfoldable pub load_after : List ℕ → Float
load_after [] = nought
load_after (c ∷ cs) = tick_load (load_after cs) c

-- every count is one that a tick takes
unfoldable pub Counts : List ℕ → Type 0
Counts [] = Unit {0}
Counts (c ∷ cs) = (c ≤ 65535) × Counts cs

-- two constructors
pub never : {A : Type 0} → true ≡ false → A
never h = let z : ◌≡◌ {A = ℕ} 0 1 = cc in absurd (omega arith)

-- a product and a sum by any fractions that the operands equal: none of them is negative, zeros included
module _ (f : Format) where
  pub mul-of : (x y : Float) (a c b d : ℕ) → 0 < c → 0 < d → HasValue x false a c → HasValue y false b d → mul f x y ≡ round f false (a * b) (c * d)
  unfolding mul
  mul-of nan y a c b d C D h k = absurd h
  mul-of (inf s) y a c b d C D h k = absurd h
  mul-of (fin true m e) y a c b d C D h k = never h.0
  mul-of (fin false m e) nan a c b d C D h k = absurd k
  mul-of (fin false m e) (inf t) a c b d C D h k = absurd k
  mul-of (fin false m e) (fin true n g) a c b d C D h k = never k.0
  mul-of (fin false m e) (fin false n g) a c b d C D h k =
      round_same f false (m * up e * (n * up g)) (down e * down g) (a * b) (c * d) (mul-pos (down_pos e) (down_pos g)) (mul-pos C D)
      (mix (m * up e) (n * up g) (down e) (down g) h.1 k.1)
    where
      mix : (p q u v : ℕ) → p * c ≡ a * u → q * d ≡ b * v → p * q * (c * d) ≡ a * b * (u * v)
      mix p q u v x y =
          let l : p * q * (c * d) ≡ p * c * (q * d) = simp (mul_assoc, mul_comm, mul_left_comm) in
          let r : a * b * (u * v) ≡ a * u * (b * v) = simp (mul_assoc, mul_left_comm) in
          l ∙ ap₂ (λ (i j : ℕ). i * j) x y ∙ sym r

  pub add-of : (x y : Float) (a c b d : ℕ) → 0 < c → 0 < d → HasValue x false a c → HasValue y false b d → add f x y ≡ round f false (a * d + b * c) (c * d)
  unfolding add sum
  add-of nan y a c b d C D h k = absurd h
  add-of (inf s) y a c b d C D h k = absurd h
  add-of (fin true m e) y a c b d C D h k = never h.0
  add-of (fin false m e) nan a c b d C D h k = absurd k
  add-of (fin false m e) (inf t) a c b d C D h k = absurd k
  add-of (fin false m e) (fin true n g) a c b d C D h k = never k.0
  add-of (fin false m e) (fin false n g) a c b d C D h k =
      round_same f false (m * up e * down g + n * up g * down e) (down e * down g) (a * d + b * c) (c * d) (mul-pos (down_pos e) (down_pos g)) (mul-pos C D)
      (mix (m * up e) (n * up g) (down e) (down g) h.1 k.1)
    where
      mix : (p q u v : ℕ) → p * c ≡ a * u → q * d ≡ b * v → (p * v + q * u) * (c * d) ≡ (a * d + b * c) * (u * v)
      mix p q u v x y =
          let l1 : p * v * (c * d) ≡ p * c * (v * d) = simp (mul_assoc, mul_comm, mul_left_comm) in
          let l2 : q * u * (c * d) ≡ q * d * (u * c) = simp (mul_assoc, mul_comm, mul_left_comm) in
          let r1 : a * d * (u * v) ≡ a * u * (v * d) = simp (mul_assoc, mul_comm, mul_left_comm) in
          let r2 : b * c * (u * v) ≡ b * v * (u * c) = simp (mul_assoc, mul_comm, mul_left_comm) in
          add-mul (p * v) (q * u) (c * d)
          ∙ ap₂ (λ (i j : ℕ). i + j) (l1 ∙ ap (λ (i : ℕ). i * (v * d)) x ∙ sym r1) (l2 ∙ ap (λ (i : ℕ). i * (u * c)) y ∙ sym r2)
          ∙ sym (add-mul (a * d) (b * c) (u * v))

-- a whole number of 2^-n, of at most 53 digits, is not rounded
pub unrounded : (a n : ℕ) → a < 2 ^ 53 → n ≤ 1074 → HasValue (round binary64 false a (2 ^ n)) false a (2 ^ n)
unrounded a n small deep =
    let j = 1074 - n in
    let whole : 1074 ≡ j + n = omega arith in
    round_exact binary64 false a (2 ^ n) a j (pow_pos n) small
    (lt_of_lt_of_le (shl_lt 53 j small) (pow_mono {j = 1074 + 1024} (omega arith)))
    (ap (λ (i : ℕ). a * 2 ^ i) whole ∙ ap (λ (i : ℕ). a * i) (pow-add 2 j n) ∙ sym (mul_assoc a (2 ^ j) (2 ^ n)))

pub half-value : HasValue one_half false 1 2
unfolding of_bits of_fields odd
half-value = (refl, refl)

pub nought-value : HasValue nought false 0 1
unfolding of_bits of_fields odd
nought-value = (refl, refl)

pub count-value : (c : ℕ) → c ≤ 2 ^ 53 → HasValue (of_int binary64 (pos c)) false c 1
unfolding of_int
count-value c h = round_whole binary64 false c h

pow-suc : (n : ℕ) → 2 ^ suc n ≡ 2 ^ n * 2
pow-suc n = let one_more : suc n ≡ n + 1 = omega arith in ap (λ (i : ℕ). 2 ^ i) one_more ∙ pow-add 2 n 1

-- one tick of a load that is a whole number of 2^-n
pub tick-exact : (x : Float) (a n c : ℕ) → HasValue x false a (2 ^ n) → n < 1074 → c ≤ 2 ^ 53 → a + c * 2 ^ suc n < 2 ^ 53
    → HasValue (tick_load x c) false (a + c * 2 ^ suc n) (2 ^ suc n)
tick-exact x a n c value deep few small =
    let halved : mul binary64 x one_half ≡ round binary64 false a (2 ^ suc n) =
    mul-of binary64 x one_half a (2 ^ n) 1 2 (pow_pos n) (lit< tt) value half-value
    ∙ ap₂ (λ (i j : ℕ). round binary64 false i j) (mul-one a) (sym (pow-suc n)) in
    let exact = subst (λ (y : Float). HasValue y false a (2 ^ suc n)) (sym halved) (unrounded a (suc n) (omega arith) (omega arith)) in
    let added : tick_load x c ≡ round binary64 false (a + c * 2 ^ suc n) (2 ^ suc n) =
    add-of binary64 (mul binary64 x one_half) (of_int binary64 (pos c)) a (2 ^ suc n) c 1 (pow_pos (suc n)) (lit< tt) exact (count-value c few)
    ∙ ap₂ (λ (i j : ℕ). round binary64 false (i + c * 2 ^ suc n) j) (mul-one a) (mul-one (2 ^ suc n)) in
    subst (λ (y : Float). HasValue y false (a + c * 2 ^ suc n) (2 ^ suc n)) (sym added) (unrounded (a + c * 2 ^ suc n) (suc n) small (omega arith))

-- a value by another fraction of the same size
rescale : (x : Float) (a c b d : ℕ) → 0 < c → b * c ≡ a * d → HasValue x false a c → HasValue x false b d
rescale nan a c b d C h v = v
rescale (inf t) a c b d C h v = v
rescale (fin t m e) a c b d C h v = (
  v.0,
  eq_of_mul-eq-mul_right c C (m * up e * d) (b * down e)
      (mul_right_comm (m * up e) d c ∙ ap (λ (i : ℕ). i * d) v.1 ∙ mul_right_comm a (down e) d ∙ ap (λ (i : ℕ). i * down e) (sym h) ∙ mul_right_comm b c (down e)),
)

-- less than 2^17 for each unit
weighed-lt : (k : ℕ) (cs : List ℕ) → Counts cs → weighed_by_halving k cs < 131072 * 2 ^ k
unfolding weighed_by_halving Counts
weighed-lt k [] h = mul-pos (lit< tt) (pow_pos k)
weighed-lt zero (c ∷ cs) h = omega (arith, h.0)
weighed-lt (suc k) (c ∷ cs) h =
    let most-of : c * 2 ^ suc k ≤ 65535 * 2 ^ suc k = mul-le-mul_right (2 ^ suc k) h.0 in
    omega (arith, most-of, weighed-lt k cs h.1, pow-suc k, pow_pos k)

-- below 2^53 up to 2^-32
few : (k : ℕ) → k ≤ 32 → 131072 * 2 ^ k ≤ 2 ^ 53
few k h =
    let up_to : 2 ^ k ≤ 2 ^ 32 = pow_mono {j = 32} h in
    omega (arith, up_to)

pub exactly : (k : ℕ) (cs : List ℕ) → Counts cs → length cs ≤ suc k → k ≤ 31 → HasValue (load_after cs) false (weighed_by_halving k cs) (2 ^ k)
unfolding load_after weighed_by_halving Counts
exactly k [] h short deep = rescale nought 0 1 0 (2 ^ k) (lit< tt) (sym (zero-mul (2 ^ k))) nought-value
exactly zero (c ∷ []) h short deep =
    rescale (tick_load nought c) (0 + c * 2 ^ 1) (2 ^ 1) c 1 (lit< tt) (omega arith)
    (tick-exact nought 0 0 c nought-value (lit< tt) (omega (arith, h.0)) (omega (arith, h.0)))
exactly zero (c ∷ d ∷ cs) h short deep = absurd (omega arith)
exactly (suc k) (c ∷ cs) h short deep =
    let all = weighed-lt (suc k) (c ∷ cs) h in
    subst (λ (i : ℕ). HasValue (tick_load (load_after cs) c) false i (2 ^ suc k)) (add_comm (weighed_by_halving k cs) (c * 2 ^ suc k))
    (tick-exact (load_after cs) (weighed_by_halving k cs) k c (exactly k cs h.1 (omega arith) (omega arith)) (omega arith) (omega (arith, h.0))
    (omega (arith, all, few (suc k) (omega arith))))

-- the first 32 ticks after a reset
pub first-32 : (cs : List ℕ) → Counts cs → length cs ≤ 32 → HasValue (load_after cs) false (weighed_by_halving 31 cs) (2 ^ 31)
first-32 cs h short = exactly 31 cs h short (lit≤ tt)

quiet-length : (c k : ℕ) → length (quiet c k) ≡ suc k
unfolding quiet
quiet-length c zero = refl
quiet-length c (suc k) = ap suc (quiet-length c k)

quiet-weight : (c k : ℕ) → weighed_by_halving k (quiet c k) ≡ c
unfolding quiet weighed_by_halving
quiet-weight c zero = refl
quiet-weight c (suc k) = omega (arith, quiet-weight c k, zero-mul (2 ^ suc k))

pub decays : (c k : ℕ) → Counts (quiet c k) → k ≤ 31 → HasValue (load_after (quiet c k)) false c (2 ^ k)
decays c k h deep =
    subst (λ (i : ℕ). HasValue (load_after (quiet c k)) false i (2 ^ k)) (quiet-weight c k)
    (exactly k (quiet c k) h (omega (arith, quiet-length c k)) deep)
