-- Bits of numbers, one by one.
use Prim.Native.Nat.{ℕ, zero, suc, ◌+◌, ◌-◌, ◌*◌, ◌/◌, ◌%◌, ◌^◌, ◌≤◌, ◌<◌}
use mathlib.Core.Bool.{Bool, true, false}
use mathlib.Core.List.{List}
use mathlib.Core.Path.{◌≡◌, refl, ap, sym, ◌∙◌}
use native.Mathlib.Nat.{mod-lt, mod-one, mod-eq_of_lt, one-mul, zero-mul, pow-suc}
use native.Mathlib.Omega.{arith}
use borrow.Author.Tests.{eq-eqb, ne_eqb, eqb-true, eqb-false}
use lib.Bits.{bit_and}
use lib.Dec.{eqb}
use lib.ListN.{get_or}
use lib.Arith.{digits_div}
use lib.Pow.{pow-lt, mod-pow-add, shr-shr}
use Rattle.image.specs.Bits.{bits, bit}
use Rattle.std.specs.Prelude.{if◌then◌else◌}
use Rattle.image.specs.Bytes.{spell}
use Rattle.image.proofs.Fields.{past_top, to-top}
use Rattle.image.specs.Entry.{Words}
use Rattle.image.proofs.WordFields.{of_word}
use Rattle.interrupts.proofs.Posts.{one_bit, common}
use Rattle.takes.specs.Take.{without_bit}

pub bit_below : (e place : ℕ) → bits e place place < 2
bit_below e place = rw (one_bit e place) (mod-lt (e / 2 ^ place) (omega arith))

-- two digits that are 1 alike are the same
same-digit : (a b : ℕ) → a < 2 → b < 2 → eqb a 1 ≡ eqb b 1 → a ≡ b
same-digit a b h k e = go (eqb a 1) refl (eqb b 1) refl e
  where
    go : (s : Bool) → eqb a 1 ≡ s → (t : Bool) → eqb b 1 ≡ t → s ≡ t → a ≡ b
    go true x true y e = omega (arith, eqb-true a 1 x, eqb-true b 1 y)
    go false x false y e = omega (arith, eqb-false a 1 x, eqb-false b 1 y)
    go true x false y e = let z : ◌≡◌ {A = ℕ} 0 1 = cc in absurd (omega arith)
    go false x true y e = let z : ◌≡◌ {A = ℕ} 0 1 = cc in absurd (omega arith)

-- a field is settled by its bits
module _ (e e' low : ℕ) where
  lowest : (width : ℕ) → ((k : ℕ) → low ≤ k → k < low + width → bit e k ≡ bit e' k)
      → e / 2 ^ low % 2 ^ width ≡ e' / 2 ^ low % 2 ^ width
  lowest zero same = mod-one (e / 2 ^ low) ∙ sym (mod-one (e' / 2 ^ low))
  lowest (suc width) same =
      let more : suc width ≡ 1 + width = omega arith in
      let top : e / 2 ^ (low + width) % 2 ≡ e' / 2 ^ (low + width) % 2 =
      sym (one_bit e (low + width))
      ∙ same-digit _ _ (bit_below e (low + width)) (bit_below e' (low + width)) (same (low + width) (omega arith) (omega arith))
      ∙ one_bit e' (low + width) in
      rw (more, mod-pow-add (e / 2 ^ low) 1 width, mod-pow-add (e' / 2 ^ low) 1 width, shr-shr e low width, shr-shr e' low width, top, lowest width (λ k from to. same k from (omega arith)))

  pub field-same : (high : ℕ) → ((k : ℕ) → low ≤ k → k ≤ high → bit e k ≡ bit e' k) → bits e high low ≡ bits e' high low
  unfolding bits
  field-same high same = lowest (suc high - low) (λ k from to. same k from (omega arith))

-- a bit of a number that words spell is a bit of one of the words
pub in-word : (ws : List ℕ) → Words ws → (i k : ℕ) → k < 64 → bit (spell ws) (64 * i + k) ≡ bit (get_or ws i 0) k
in-word ws words i k h = ap (λ (n : ℕ). eqb n 1) (of_word i ws words k k h)

-- a bit is cleared by a difference, as the code does it
pub without-bit : (byte place : ℕ) → place < 8 → byte - bit_and byte ((1 * 2 ^ place) % 256) ≡ without_bit place byte
without-bit byte place h =
    ap (λ (n : ℕ). byte - bit_and byte n) (mod-eq_of_lt (rw (one-mul (2 ^ place)) (pow-lt h)) ∙ one-mul (2 ^ place))
    ∙ ap (λ (n : ℕ). byte - n) (common byte place) ∙ go (eqb (bits byte place place) 1) refl
  where
    go : (t : Bool) → eqb (bits byte place place) 1 ≡ t → byte - bits byte place place * 2 ^ place ≡ (if t then byte - 2 ^ place else byte)
    go true e = rw (eqb-true (bits byte place place) 1 e, one-mul (2 ^ place))
    go false e =
        let clear : bits byte place place ≡ 0 = omega (arith, eqb-false (bits byte place place) 1 e, bit_below byte place) in
        rw (clear, zero-mul (2 ^ place)) (omega arith)

-- the highest bit of a number between two powers
pub top_set : (w j : ℕ) → 2 ^ j ≤ w → w < 2 ^ suc j → bit w j ≡ true
top_set w j low high =
    let double : 2 ^ suc j ≡ 2 ^ j * 2 = pow-suc 2 j in
    let rest : w - 2 ^ j < 2 ^ j = omega arith in
    let whole : 1 * 2 ^ j + (w - 2 ^ j) ≡ w = omega arith in
    let one : w / 2 ^ j ≡ 1 = rw whole at (digits_div 1 rest) in
    eq-eqb (bits w j j) 1 (to-top w (suc j) j j high (omega arith) (omega arith) ∙ one)

pub above-clear : (w j k : ℕ) → w < 2 ^ suc j → j < k → bit w k ≡ false
above-clear w j k high above = ne_eqb (bits w k k) 1 (λ h. omega (arith, past_top w (suc j) k {low = k} high (omega arith)))
