-- What stays of an entry whose rights, bits 0 and 1, are switched on: every other bit, and these where they were set.
use Prim.Native.Nat.{ℕ}
use mathlib.Core.Bool.{Bool, true, false, not, ◌&&◌, ◌||◌}
use mathlib.Core.Path.{◌≡◌, refl}
use native.Mathlib.Omega.{arith}
use borrow.Author.Tests.{eq-eqb, eqb-true}
use Rattle.image.specs.Bits.{bits, bit}
use Rattle.dma.proofs.Raised.{Raised}

-- a test that holds goes on holding
abbrev pub Goes : (a b : Bool) → Type 0
Goes a b = a ≡ true → b ≡ true

pub goes-and : (a a' b b' : Bool) → Goes a a' → Goes b b' → Goes (a && b) (a' && b')
goes-and true a' true b' first second h = rw (first refl, second refl)
goes-and true a' false b' first second h = let z : ◌≡◌ {A = ℕ} 0 1 = cc in absurd (omega arith)
goes-and false a' b b' first second h = let z : ◌≡◌ {A = ℕ} 0 1 = cc in absurd (omega arith)

-- one of two that hold: the test that none does fails still
pub goes-or : (a a' b b' : Bool) → Goes a a' → Goes b b' → not (a || b) ≡ false → not (a' || b') ≡ false
goes-or true a' b b' first second h = rw (first refl)
goes-or false true true b' first second h = refl
goes-or false false true b' first second h = rw (second refl)
goes-or false a' false b' first second h = let z : ◌≡◌ {A = ℕ} 0 1 = cc in absurd (omega arith)

pub goes-not : (a a' : Bool) → Goes a a' → not a ≡ false → not a' ≡ false
goes-not true a' on h = rw (on refl)
goes-not false a' on h = let z : ◌≡◌ {A = ℕ} 0 1 = cc in absurd (omega arith)

-- a right that is wanted and lacks
pub lacking : (wanted a a' : Bool) → Goes a a' → wanted && not a ≡ false → wanted && not a' ≡ false
lacking true a a' on h = goes-not a a' on h
lacking false a a' on h = refl

-- one thing lacks or another
pub neither : (a a' b b' : Bool) → (a ≡ false → a' ≡ false) → (b ≡ false → b' ≡ false) → (a || b) ≡ false → (a' || b') ≡ false
neither true a' b b' first second h = let z : ◌≡◌ {A = ℕ} 0 1 = cc in absurd (omega arith)
neither false a' b b' first second h = rw (first refl) (second h)

module _ {e e' : ℕ} (raised : Raised e e') where
  pub goes-read : Goes (bit e 0) (bit e' 0)
  unfolding bits
  goes-read h =
      let set : bits e 0 0 ≡ 1 = eqb-true _ _ h in
      let more = raised.read in
      eq-eqb (bits e' 0 0) 1 (omega arith)

  pub goes-write : Goes (bit e 1) (bit e' 1)
  unfolding bits
  goes-write h =
      let set : bits e 1 1 ≡ 1 = eqb-true _ _ h in
      let more = raised.write in
      eq-eqb (bits e' 1 1) 1 (omega arith)
