-- Addresses of one page: they have the same entries down to its leaf, and both fit in X bits.
use Prim.Native.Nat.{ℕ, suc, ◌+◌, ◌-◌, ◌*◌, ◌/◌, ◌%◌, ◌^◌, ◌≤◌, ◌<◌, min}
use mathlib.Core.Bool.{false}
use mathlib.Core.Path.{◌≡◌, ap, sym, ◌∙◌, subst}
use native.Mathlib.Nat.{div-lt_iff_lt-mul}
use native.Mathlib.Omega.{arith}
use borrow.Author.Tests.{leb-false, lt-leb}
use lib.Pow.{pow-add, pow_pos, shr_lt, shr-shr}
use Rattle.registers.specs.declared.Registers.{Registers}
use Rattle.dma.specs.InterruptRange.{span_at}
use Rattle.dma.specs.Translation.{overflows}
use Rattle.dma.specs.Walk.{place_in}
use Rattle.dma.specs.declared.context.Context.{Context}
use Rattle.dma.proofs.Steps.{index_of}

-- what is the same from a bit on is the same from any bit above it
pub same_above : (a b low high : ℕ) → low ≤ high → a / 2 ^ low ≡ b / 2 ^ low → a / 2 ^ high ≡ b / 2 ^ high
same_above a b low high h same =
    let sum : low + (high - low) ≡ high = omega arith in
    let by : (n : ℕ) → n / 2 ^ high ≡ n / 2 ^ low / 2 ^ (high - low) = λ n. sym (shr-shr n low (high - low) ∙ ap (λ (k : ℕ). n / 2 ^ k) sum) in
    by a ∙ ap (λ (x : ℕ). x / 2 ^ (high - low)) same ∙ sym (by b)

-- and what fits in so many bits does too
same-fits : (a b low x : ℕ) → low ≤ x → a / 2 ^ low ≡ b / 2 ^ low → a < 2 ^ x → b < 2 ^ x
same-fits a b low x h same fits =
    let sum : x - low + low ≡ x = omega arith in
    let part : a / 2 ^ low < 2 ^ (x - low) = shr_lt (x - low) low (rw sum fits) in
    let other : b / 2 ^ low < 2 ^ (x - low) = rw (← same) part in
    subst (λ (n : ℕ). b < n) (sym (pow-add 2 (x - low) low) ∙ ap (λ (k : ℕ). 2 ^ k) sum) ((div-lt_iff_lt-mul (pow_pos low)).0 other)

-- an entry's place above a leaf
pub same_place : (a b table n level : ℕ) → 0 < level → level ≤ suc n → a / span_at level ≡ b / span_at level → place_in a table n ≡ place_in b table n
same_place a b table n level more high same =
    let upper = same_above a b (12 + 9 * (level - 1)) (12 + 9 * n) (omega arith) same in
    let index = sym (index_of a n) ∙ ap (λ (x : ℕ). x % 512) upper ∙ index_of b n in
    ap (λ (i : ℕ). table + 8 * i) index

-- the width
pub same_width : (registers : Registers) (c : Context) (a b level : ℕ) → 39 ≤ registers.mgaw → 0 < level → level ≤ 3 → level ≤ c.levels
    → a / span_at level ≡ b / span_at level → overflows registers c.levels a ≡ false → overflows registers c.levels b ≡ false
same_width registers c a b level wide more low high same fits =
    let x = min registers.mgaw (12 + 9 * c.levels) in
    let within : 12 + 9 * (level - 1) ≤ x = omega arith in
    lt-leb (2 ^ x) b (same-fits a b (12 + 9 * (level - 1)) x within same (leb-false (2 ^ x) a fits))
