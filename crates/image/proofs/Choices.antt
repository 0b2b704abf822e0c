-- Choices by a test, tests joined, and what an entry's check tells by its answer. Laws of tests alone that aren't here are the kit's:
-- mathlib.Core.Bool (`and-false`, `or_comm`), borrow.Author.Tests (`not-true`, `eqb-true`).
use Rattle.std.proofs.Common.{◌≡◌, ℕ, zero, suc, ◌<◌, Bool, true, false, ◌&&◌, ◌||◌, eqb, refl, arith}
use Rattle.image.specs.Check.{Check, stop, go}
use Rattle.std.specs.Prelude.{if◌then◌else◌}

-- what holds of both holds of the chosen one
pub either : {A : Type 0} (P : A → Type 0) (t : Bool) {a b : A} → P a → P b → P (if t then a else b)
either P true x y = x
either P false x y = y

pub chosen : {A : Type 0} (P : A → Type 0) (t : Bool) {a b : A} → (t ≡ true → P a) → (t ≡ false → P b) → P (if t then a else b)
chosen P true x y = x refl
chosen P false x y = y refl

-- a value that isn't the first of a choice is the second, and the test fails
pub otherwise : {A : Type 0} (t : Bool) {a b x : A} → (x ≡ a → ⊥) → x ≡ (if t then a else b) → (t ≡ false) × (x ≡ b)
otherwise true other h = absurd (other h)
otherwise false other h = (refl, h)

-- tests joined: both hold, or neither does
pub both : (a b : Bool) → (a && b) ≡ true → (a ≡ true) × (b ≡ true)
both true b h = (refl, h)
both false b h = let z : ◌≡◌ {A = ℕ} 0 1 = cc in absurd (omega arith)

pub neither : (a b : Bool) → (a || b) ≡ false → (a ≡ false) × (b ≡ false)
neither true b h = let z : ◌≡◌ {A = ℕ} 0 1 = cc in absurd (omega arith)
neither false b h = (refl, h)

pub nor : (a b : Bool) → a ≡ false → b ≡ false → (a || b) ≡ false
nor a b p q = rw (p, q)

-- a number that isn't 0
pub above_zero : (n : ℕ) → eqb n 0 ≡ false → 0 < n
above_zero zero h = let z : ◌≡◌ {A = ℕ} 0 1 = cc in absurd (omega arith)
above_zero (suc n) h = omega arith

-- a check that goes on is past each test that would stop it
pub past : {A : Type 0} (t : Bool) (reason : ℕ) (rest : Check A) (a : A) → (if t then stop reason else rest) ≡ go a
    → (t ≡ false) × (rest ≡ go a)
past true reason rest a h = let z : ◌≡◌ {A = ℕ} 0 1 = cc in absurd (omega arith)
past false reason rest a h = (refl, h)

-- what a check lets pass is what it went on with
pub same-go : {A : Type 0} {a b : A} → go a ≡ go b → a ≡ b
same-go h = cc
