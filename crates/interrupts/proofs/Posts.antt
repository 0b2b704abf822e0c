-- Bits of bytes, and answers that write none.
use Prim.Native.Nat.{ℕ, suc, ◌+◌, ◌-◌, ◌*◌, ◌/◌, ◌%◌, ◌^◌, ◌<◌}
use mathlib.Core.Bool.{Bool, true, false}
use mathlib.Core.List.{List}
use mathlib.Core.Path.{◌≡◌, refl, ap, sym, ◌∙◌}
use native.Mathlib.Nat.{mod-lt, mod-eq_of_lt, one-mul, zero-mul}
use native.Mathlib.Omega.{arith}
use borrow.Author.Tests.{eqb-true, eqb-false}
use lib.Bits.{bit_and, bit_or, and_high, or_add_and}
use lib.Dec.{eqb}
use lib.Pow.{pow-lt, pow-add}
use Rattle.image.specs.Bits.{bits, bit}
use Rattle.std.specs.Prelude.{if◌then◌else◌}
use Rattle.interrupts.specs.Answers.{outcome_of}
use Rattle.interrupts.specs.Post.{with_bit, interrupt_written}
use Rattle.interrupts.specs.declared.answer.InterruptAnswer.{InterruptAnswer}
use Rattle.interrupts.specs.declared.answer.InterruptAnswer.TheVariants.{Passed, Remapped, Posted, Blocked, Refused}
use Rattle.interrupts.specs.declared.answer.Posted as posted

-- one bit is below 2
pub one_bit : (byte place : ℕ) → bits byte place place ≡ byte / 2 ^ place % 2
unfolding bits
one_bit byte place = let width : suc place - place ≡ 1 = omega arith in rw width

-- `|` with a power of two sets that bit
module _ (byte place : ℕ) where
  pub common : bit_and byte (2 ^ place) ≡ bits byte place place * 2 ^ place
  common =
      let double : 2 ^ (1 + place) ≡ 2 * 2 ^ place = pow-add 2 1 place in
      let mask : 2 ^ (1 + place) - 2 ^ place ≡ 2 ^ place = omega arith in
      ap (bit_and byte) (sym mask) ∙ and_high byte 1 place ∙ ap (λ (n : ℕ). n * 2 ^ place) (sym (one_bit byte place))

  pub or-power : bit_or byte (2 ^ place) ≡ with_bit place byte
  or-power = go (eqb (bits byte place place) 1) refl
    where
      go : (t : Bool) → bit byte place ≡ t → bit_or byte (2 ^ place) ≡ (if t then byte else byte + 2 ^ place)
      go true e =
          let one : bits byte place place ≡ 1 = eqb-true (bits byte place place) 1 e in
          let all : bit_and byte (2 ^ place) ≡ 2 ^ place = common ∙ ap (λ (n : ℕ). n * 2 ^ place) one ∙ one-mul (2 ^ place) in
          omega (arith, or_add_and byte (2 ^ place))
      go false e =
          let small : bits byte place place < 2 = rw (one_bit byte place) (mod-lt (byte / 2 ^ place) (omega arith)) in
          let clear : bits byte place place ≡ 0 = omega (arith, eqb-false (bits byte place place) 1 e) in
          let none : bit_and byte (2 ^ place) ≡ 0 = common ∙ ap (λ (n : ℕ). n * 2 ^ place) clear ∙ zero-mul (2 ^ place) in
          omega (arith, or_add_and byte (2 ^ place))

  -- as the code shifts it
  pub with-bit : place < 8 → bit_or byte ((1 * 2 ^ place) % 256) ≡ with_bit place byte
  with-bit h = ap (bit_or byte) (mod-eq_of_lt (rw (one-mul (2 ^ place)) (pow-lt h)) ∙ one-mul (2 ^ place)) ∙ or-power

-- an answer that isn't a post leaves the image
pub unposted : (r : InterruptAnswer) (windows image : List ℕ) → ((p : posted.Posted) → r ≡ Posted p → ⊥)
    → image ≡ interrupt_written windows (outcome_of r) image
unposted Passed windows image h = refl
unposted (Remapped r) windows image h = refl
unposted (Posted p) windows image h = absurd (h p refl)
unposted (Blocked f at) windows image h = refl
unposted (Refused n) windows image h = refl
