-- The contracts of the requests and of takes are equations of what the code's answer says (`outcome_of`, `entry_of`, `take_outcome_of`) with what the rules say. No two
-- answers, and no two reasons, say the same: so each contract leaves one answer. Proved in proofs/OneAnswer.antt.
use Rattle.std.specs.Prelude.{ℕ, ◌^◌, ◌<◌, ◌≡◌, Option, Result}
use Rattle.registers.specs.declared.refusal.Refusal.{Refusal}
use Rattle.faults.specs.Answers.{answer_of}
use Rattle.faults.specs.Reason.{number_of}
use Rattle.faults.specs.declared.reason.Reason.{Reason}
use Rattle.faults.specs.declared.recorder.RecorderAnswer.{RecorderAnswer}
use Rattle.dma.specs.Answers as memory
use Rattle.dma.specs.declared.MemoryAnswer.{MemoryAnswer}
use Rattle.dma.specs.declared.MemoryAnswer.TheVariants.{Granted, Blocked, Refused}
use Rattle.translation.specs.Answers as translation
use Rattle.translation.specs.declared.TranslationAnswer.{TranslationAnswer}
use Rattle.translation.specs.declared.TranslationAnswer.TheVariants as translated
use Rattle.interrupts.specs.Answers as interrupts
use Rattle.interrupts.specs.declared.answer.InterruptAnswer.{InterruptAnswer}
use Rattle.interrupts.specs.declared.answer.InterruptAnswer.TheVariants as answer
use Rattle.scalable.specs.Answers as scalable
use Rattle.scalable.specs.declared.ScalableAnswer.{ScalableAnswer}
use Rattle.scalable.specs.declared.ScalableAnswer.TheVariants as decided
use Rattle.takes.specs.Answers.{take_outcome_of}

-- an answer whose fault has words of 64 bits, as every answer of the code has
abbrev pub Sized : MemoryAnswer → Type 0
Sized (Granted address) = Unit {0}
Sized (Blocked f at) = f.low < 2 ^ 64
Sized (Refused number) = Unit {0}

abbrev pub SizedTranslation : TranslationAnswer → Type 0
SizedTranslation (translated.Passed address) = Unit {0}
SizedTranslation (translated.Page frame size rights) = Unit {0}
SizedTranslation translated.Empty = Unit {0}
SizedTranslation (translated.Blocked f at) = f.low < 2 ^ 64
SizedTranslation (translated.Refused number) = Unit {0}

abbrev pub SizedInterrupt : InterruptAnswer → Type 0
SizedInterrupt answer.Passed = Unit {0}
SizedInterrupt (answer.Remapped r) = Unit {0}
SizedInterrupt (answer.Posted p) = Unit {0}
SizedInterrupt (answer.Blocked f at) = f.low < 2 ^ 64
SizedInterrupt (answer.Refused number) = Unit {0}

abbrev pub SizedScalable : ScalableAnswer → Type 0
SizedScalable (decided.Granted address) = Unit {0}
SizedScalable (decided.Blocked f at) = f.low < 2 ^ 64
SizedScalable (decided.Refused number) = Unit {0}

abbrev pub OneMemoryAnswer : Type 0
OneMemoryAnswer = (r s : MemoryAnswer) → Sized r → Sized s → memory.outcome_of r ≡ memory.outcome_of s → memory.entry_of r ≡ memory.entry_of s → r ≡ s

abbrev pub OneTranslationAnswer : Type 0
OneTranslationAnswer = (r s : TranslationAnswer) → SizedTranslation r → SizedTranslation s → translation.outcome_of r ≡ translation.outcome_of s
    → translation.entry_of r ≡ translation.entry_of s → r ≡ s

abbrev pub OneInterruptAnswer : Type 0
OneInterruptAnswer = (r s : InterruptAnswer) → SizedInterrupt r → SizedInterrupt s → interrupts.outcome_of r ≡ interrupts.outcome_of s
    → interrupts.entry_of r ≡ interrupts.entry_of s → r ≡ s

abbrev pub OneScalableAnswer : Type 0
OneScalableAnswer = (r s : ScalableAnswer) → SizedScalable r → SizedScalable s → scalable.outcome_of r ≡ scalable.outcome_of s
    → scalable.entry_of r ≡ scalable.entry_of s → r ≡ s

-- a take's answer has no fault, and so neither record words nor an entry concerned
abbrev pub OneTakeAnswer : Type 0
OneTakeAnswer = (r s : Result (Option ℕ) Refusal) → take_outcome_of r ≡ take_outcome_of s → r ≡ s

-- the recorder tells one answer by one number
abbrev pub OneRecorderAnswer : Type 0
OneRecorderAnswer = (r s : RecorderAnswer) → answer_of r ≡ answer_of s → r ≡ s

abbrev pub OneReason : Type 0
OneReason = (r s : Reason) → number_of r ≡ number_of s → r ≡ s
