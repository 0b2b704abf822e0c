-- No two answers of the code stand for the same outcome: a translation request's promise leaves one answer.
use Prim.Native.Nat.{ℕ, ◌^◌, ◌<◌}
use mathlib.Core.Path.{◌≡◌, refl, ap₂}
use native.Mathlib.Omega.{arith}
use Rattle.image.proofs.Places.{place_of-injective}
use Rattle.faults.specs.Answers.{fault_of}
use Rattle.faults.proofs.Contents.{fault_of-injective}
use Rattle.translation.specs.Answers.{size_of, outcome_of, entry_of}
use Rattle.translation.specs.declared.PageSize.{PageSize}
use Rattle.translation.specs.declared.PageSize.TheVariants.{FourKiB, TwoMiB, OneGiB}
use Rattle.translation.specs.declared.TranslationAnswer.{TranslationAnswer}
use Rattle.translation.specs.declared.TranslationAnswer.TheVariants.{Passed, Page, Empty, Blocked, Refused}

pub size_of-injective : (r s : PageSize) → size_of r ≡ size_of s → r ≡ s
size_of-injective FourKiB FourKiB e = refl
size_of-injective FourKiB TwoMiB e = absurd (omega arith)
size_of-injective FourKiB OneGiB e = absurd (omega arith)
size_of-injective TwoMiB FourKiB e = absurd (omega arith)
size_of-injective TwoMiB TwoMiB e = refl
size_of-injective TwoMiB OneGiB e = absurd (omega arith)
size_of-injective OneGiB FourKiB e = absurd (omega arith)
size_of-injective OneGiB TwoMiB e = absurd (omega arith)
size_of-injective OneGiB OneGiB e = refl

-- a page of some size is no empty answer
some_size : (s : PageSize) → size_of s ≡ 0 → ⊥
some_size FourKiB e = omega arith
some_size TwoMiB e = omega arith
some_size OneGiB e = omega arith

-- a fault's words are words
abbrev pub Sized : TranslationAnswer → Type 0
Sized (Passed address) = Unit {0}
Sized (Page frame size rights) = Unit {0}
Sized Empty = Unit {0}
Sized (Blocked f at) = f.low < 2 ^ 64
Sized (Refused number) = Unit {0}

pub outcome_of-injective : (r s : TranslationAnswer) → Sized r → Sized s → outcome_of r ≡ outcome_of s → entry_of r ≡ entry_of s → r ≡ s
outcome_of-injective (Passed x) (Passed y) sr ss e p = cc
outcome_of-injective (Page f s r) (Page g t q) sr ss e p =
    let frames : f ≡ g = cc in
    let sizes : size_of s ≡ size_of t = cc in
    let rights : r ≡ q = cc in
    rw (frames, size_of-injective s t sizes, rights)
outcome_of-injective (Page f s r) Empty sr ss e p = let none : size_of s ≡ 0 = cc in absurd (some_size s none)
outcome_of-injective Empty (Page g t q) sr ss e p = let none : size_of t ≡ 0 = cc in absurd (some_size t none)
outcome_of-injective Empty Empty sr ss e p = refl
outcome_of-injective (Blocked f at) (Blocked g at') sr ss e p =
    let same : fault_of f ≡ fault_of g = cc in
    ap₂ Blocked (fault_of-injective f g sr ss same) (place_of-injective at at' p)
outcome_of-injective (Refused n) (Refused m) sr ss e p = cc
outcome_of-injective (Passed x) (Page g t q) sr ss e p = let z : ◌≡◌ {A = ℕ} 0 1 = cc in absurd (omega arith)
outcome_of-injective (Passed x) Empty sr ss e p = let z : ◌≡◌ {A = ℕ} 0 1 = cc in absurd (omega arith)
outcome_of-injective (Passed x) (Blocked g at') sr ss e p = let z : ◌≡◌ {A = ℕ} 0 1 = cc in absurd (omega arith)
outcome_of-injective (Passed x) (Refused m) sr ss e p = let z : ◌≡◌ {A = ℕ} 0 1 = cc in absurd (omega arith)
outcome_of-injective (Page f s r) (Passed y) sr ss e p = let z : ◌≡◌ {A = ℕ} 0 1 = cc in absurd (omega arith)
outcome_of-injective (Page f s r) (Blocked g at') sr ss e p = let z : ◌≡◌ {A = ℕ} 0 1 = cc in absurd (omega arith)
outcome_of-injective (Page f s r) (Refused m) sr ss e p = let z : ◌≡◌ {A = ℕ} 0 1 = cc in absurd (omega arith)
outcome_of-injective Empty (Passed y) sr ss e p = let z : ◌≡◌ {A = ℕ} 0 1 = cc in absurd (omega arith)
outcome_of-injective Empty (Blocked g at') sr ss e p = let z : ◌≡◌ {A = ℕ} 0 1 = cc in absurd (omega arith)
outcome_of-injective Empty (Refused m) sr ss e p = let z : ◌≡◌ {A = ℕ} 0 1 = cc in absurd (omega arith)
outcome_of-injective (Blocked f at) (Passed y) sr ss e p = let z : ◌≡◌ {A = ℕ} 0 1 = cc in absurd (omega arith)
outcome_of-injective (Blocked f at) (Page g t q) sr ss e p = let z : ◌≡◌ {A = ℕ} 0 1 = cc in absurd (omega arith)
outcome_of-injective (Blocked f at) Empty sr ss e p = let z : ◌≡◌ {A = ℕ} 0 1 = cc in absurd (omega arith)
outcome_of-injective (Blocked f at) (Refused m) sr ss e p = let z : ◌≡◌ {A = ℕ} 0 1 = cc in absurd (omega arith)
outcome_of-injective (Refused n) (Passed y) sr ss e p = let z : ◌≡◌ {A = ℕ} 0 1 = cc in absurd (omega arith)
outcome_of-injective (Refused n) (Page g t q) sr ss e p = let z : ◌≡◌ {A = ℕ} 0 1 = cc in absurd (omega arith)
outcome_of-injective (Refused n) Empty sr ss e p = let z : ◌≡◌ {A = ℕ} 0 1 = cc in absurd (omega arith)
outcome_of-injective (Refused n) (Blocked g at') sr ss e p = let z : ◌≡◌ {A = ℕ} 0 1 = cc in absurd (omega arith)
