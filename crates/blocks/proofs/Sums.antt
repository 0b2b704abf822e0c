-- The sum of a block, byte by byte, and with one byte exchanged.
use Prim.Native.Nat.{ℕ, zero, suc, ◌+◌, ◌*◌, ◌^◌, ◌≤◌, ◌<◌}
use mathlib.Core.Path.{◌≡◌}
use mathlib.Core.List.{List, [], ◌∷◌}
use native.Mathlib.Nat.{add-zero, zero-add, one-mul, mul_assoc, pow-succ', mul-le-mul_left}
use native.Mathlib.Numerals.{add-one}
use native.Mathlib.Omega.{arith}
use lib.ListN.{length, get_or, take, set}
use Rattle.image.specs.Bytes.{little_endian}
use Rattle.blocks.specs.Block.{weighed}

-- one byte more
pub weighed-next : (k i : ℕ) (xs : List ℕ) → i < length xs
    → weighed k (take (suc i) xs) ≡ weighed k (take i xs) + get_or xs i 0 * (k + i + 1)
unfolding weighed
weighed-next k i [] h = absurd (omega arith)
weighed-next k zero (x ∷ xs) h = rw (add-zero k) (omega arith)
weighed-next k (suc i) (x ∷ xs) h =
    let next : suc k + i + 1 ≡ k + suc i + 1 = omega arith in
    rw (weighed-next (suc k) i xs (omega arith), next) (omega arith)

-- a byte exchanged
pub weighed-set : (k i v : ℕ) (xs : List ℕ) → i < length xs
    → weighed k (set xs i v) + get_or xs i 0 * (k + i + 1) ≡ weighed k xs + v * (k + i + 1)
unfolding weighed
weighed-set k i v [] h = absurd (omega arith)
weighed-set k zero v (x ∷ xs) h = rw (add-zero k) (omega arith)
weighed-set k (suc i) v (x ∷ xs) h =
    let next : suc k + i + 1 ≡ k + suc i + 1 = omega arith in
    let rest = rw next at (weighed-set (suc k) i v xs (omega arith)) in
    omega arith

pub spelled-set : (i v : ℕ) (xs : List ℕ) → i < length xs
    → little_endian (set xs i v) + 256 ^ i * get_or xs i 0 ≡ little_endian xs + 256 ^ i * v
unfolding little_endian
spelled-set i v [] h = absurd (omega arith)
spelled-set zero v (x ∷ xs) h = rw (one-mul x, one-mul v) (omega arith)
spelled-set (suc i) v (x ∷ xs) h =
    let rest = spelled-set i v xs (omega arith) in
    rw (pow-succ' 256 i, mul_assoc 256 (256 ^ i) (get_or xs i 0), mul_assoc 256 (256 ^ i) v) (omega arith)

pub small_product : {b i : ℕ} → b < 256 → i < 508 → b * (i + 1) ≤ 129_540
small_product {b} {i} byte inside =
    let more : b * (i + 1) ≤ b * 508 = mul-le-mul_left b (omega arith) in
    omega arith

pub sum-next : (xs : List ℕ) (i : ℕ) {sum b : ℕ} → i < length xs → sum ≡ weighed 0 (take i xs) → b ≡ get_or xs i 0
    → sum + b * (i + 1) ≡ weighed 0 (take (i + 1) xs)
sum-next xs i h so_far byte = rw (so_far, byte, add-one i, weighed-next 0 i xs h, zero-add i, add-one i)
