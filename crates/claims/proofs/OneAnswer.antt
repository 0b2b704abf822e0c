-- No two answers of the code, and no two reasons, say the same.
use Prim.Native.Nat.{ℕ}
use mathlib.Core.Path.{◌≡◌, refl, ap}
use native.Mathlib.Omega.{arith}
use Rattle.std.specs.Prelude.{Some, None, Ok, Err}
use Rattle.registers.specs.Refusal.{refusal_number}
use Rattle.faults.proofs.Numbers.{number_of-injective, answer_of-injective}
use Rattle.dma.proofs.Injective as memory
use Rattle.translation.proofs.Injective as translation
use Rattle.interrupts.proofs.Injective as interrupts
use Rattle.registers.proofs.Refusals.{refusal_number-injective}
use Rattle.claims.specs.OneAnswer.{OneMemoryAnswer, OneTranslationAnswer, OneInterruptAnswer, OneTakeAnswer, OneRecorderAnswer, OneReason}

pub one-memory-answer : OneMemoryAnswer
one-memory-answer = memory.outcome_of-injective

pub one-translation-answer : OneTranslationAnswer
one-translation-answer = translation.outcome_of-injective

pub one-interrupt-answer : OneInterruptAnswer
one-interrupt-answer = interrupts.outcome_of-injective

pub one-take-answer : OneTakeAnswer
one-take-answer (Ok (Some v)) (Ok (Some w)) e = cc
one-take-answer (Ok (Some v)) (Ok None) e = let z : ◌≡◌ {A = ℕ} 0 1 = cc in absurd (omega arith)
one-take-answer (Ok (Some v)) (Err m) e = let z : ◌≡◌ {A = ℕ} 0 1 = cc in absurd (omega arith)
one-take-answer (Ok None) (Ok (Some w)) e = let z : ◌≡◌ {A = ℕ} 0 1 = cc in absurd (omega arith)
one-take-answer (Ok None) (Ok None) e = refl
one-take-answer (Ok None) (Err m) e = let z : ◌≡◌ {A = ℕ} 0 1 = cc in absurd (omega arith)
one-take-answer (Err n) (Ok (Some w)) e = let z : ◌≡◌ {A = ℕ} 0 1 = cc in absurd (omega arith)
one-take-answer (Err n) (Ok None) e = let z : ◌≡◌ {A = ℕ} 0 1 = cc in absurd (omega arith)
one-take-answer (Err n) (Err m) e = let same : refusal_number n ≡ refusal_number m = cc in ap Err (refusal_number-injective n m same)

pub one-recorder-answer : OneRecorderAnswer
one-recorder-answer = answer_of-injective

pub one-reason : OneReason
one-reason = number_of-injective
