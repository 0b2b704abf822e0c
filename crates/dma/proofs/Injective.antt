-- No two answers of the code stand for the same outcome: a memory request's promise leaves one answer.
use Prim.Native.Nat.{ℕ, ◌^◌, ◌<◌}
use mathlib.Core.Path.{◌≡◌, ap₂}
use native.Mathlib.Omega.{arith}
use Rattle.image.proofs.Places.{place_of-injective}
use Rattle.faults.specs.Answers.{fault_of}
use Rattle.faults.proofs.Contents.{fault_of-injective}
use Rattle.dma.specs.Answers.{outcome_of, entry_of}
use Rattle.dma.specs.declared.MemoryAnswer.{MemoryAnswer}
use Rattle.dma.specs.declared.MemoryAnswer.TheVariants.{Granted, Blocked, Refused}

-- a fault's words are words
abbrev pub Sized : MemoryAnswer → Type 0
Sized (Granted address) = Unit {0}
Sized (Blocked f at) = f.low < 2 ^ 64
Sized (Refused number) = Unit {0}

pub outcome_of-injective : (r s : MemoryAnswer) → Sized r → Sized s → outcome_of r ≡ outcome_of s → entry_of r ≡ entry_of s → r ≡ s
outcome_of-injective (Granted x) (Granted y) sr ss e p = cc
outcome_of-injective (Granted x) (Blocked g at') sr ss e p = let z : ◌≡◌ {A = ℕ} 0 1 = cc in absurd (omega arith)
outcome_of-injective (Granted x) (Refused n) sr ss e p = let z : ◌≡◌ {A = ℕ} 0 1 = cc in absurd (omega arith)
outcome_of-injective (Blocked f at) (Granted y) sr ss e p = let z : ◌≡◌ {A = ℕ} 0 1 = cc in absurd (omega arith)
outcome_of-injective (Blocked f at) (Blocked g at') sr ss e p =
    let same : fault_of f ≡ fault_of g = cc in
    ap₂ Blocked (fault_of-injective f g sr ss same) (place_of-injective at at' p)
outcome_of-injective (Blocked f at) (Refused n) sr ss e p = let z : ◌≡◌ {A = ℕ} 0 1 = cc in absurd (omega arith)
outcome_of-injective (Refused n) (Granted y) sr ss e p = let z : ◌≡◌ {A = ℕ} 0 1 = cc in absurd (omega arith)
outcome_of-injective (Refused n) (Blocked g at') sr ss e p = let z : ◌≡◌ {A = ℕ} 0 1 = cc in absurd (omega arith)
outcome_of-injective (Refused n) (Refused m) sr ss e p = cc
