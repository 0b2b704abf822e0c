-- What the code's enums say, in document 01's numbers.
use Rattle.std.specs.Prelude.{ℕ, ◌≡◌, Result, Ok, Err}
use Rattle.image.specs.Check.{Check, stop, go}
use Rattle.image.specs.Answers.{place_of}
use Rattle.image.specs.Place.{Place, no_entry, entry_at}
use Rattle.faults.specs.Reason.{number_of}
use Rattle.dma.specs.Lookup.{Lookup, context, no_context}
use Rattle.dma.specs.Translation.{Translation, through, leaf, fault}
use Rattle.dma.specs.Walk.{Step, done, down}
use Rattle.dma.specs.declared.context.FoundContext.{FoundContext}
use Rattle.dma.specs.declared.translation.Translation.{Translation as TranslationCode}
use Rattle.dma.specs.declared.translation.Translation.TheVariants as translation
use Rattle.dma.specs.declared.page.Step.{Step as StepCode}
use Rattle.dma.specs.declared.page.Step.TheVariants as step
use Rattle.faults.specs.Answers.{fault_of}
use Rattle.faults.specs.declared.reason.Reason.{Reason}
use Rattle.faults.specs.declared.stop.Stop.{Stop}
use Rattle.dma.specs.Requests.{MemoryOutcome, granted, blocked, refused}
use Rattle.dma.specs.declared.MemoryAnswer.{MemoryAnswer}
use Rattle.dma.specs.declared.MemoryAnswer.TheVariants.{Granted, Blocked, Refused}

abbrev pub check_of : Result ℕ (Stop Reason) → Check ℕ
check_of (Ok address) = go address
check_of (Err s) = stop (number_of s.reason)

abbrev pub lookup_of : Result FoundContext (Stop Reason) → Lookup
lookup_of (Ok found) = context found.context
lookup_of (Err s) = no_context (number_of s.reason) s.fpd

abbrev pub translation_of : Result TranslationCode (Stop Reason) → Translation
translation_of (Ok translation.Through) = through
translation_of (Ok (translation.Leaf frame level)) = leaf frame level
translation_of (Err s) = fault (number_of s.reason) s.fpd

abbrev pub step_of : Result StepCode (Stop Reason) → Step (Unit {0}) Translation
step_of (Ok (step.Down table)) = down table tt
step_of (Ok (step.Leaf frame level)) = done (leaf frame level)
step_of (Err s) = done (fault (number_of s.reason) s.fpd)

abbrev pub outcome_of : MemoryAnswer → MemoryOutcome
outcome_of (Granted address) = granted address
outcome_of (Blocked f place) = blocked (fault_of f)
outcome_of (Refused number) = refused number

-- the entry concerned, as the answer names it: only a blocked request has one
abbrev pub entry_of : MemoryAnswer → Place
entry_of (Granted address) = no_entry
entry_of (Blocked f place) = place_of place
entry_of (Refused number) = no_entry

-- the last entry tried, as a lookup names it
abbrev pub lookup_place : Result FoundContext (Stop Reason) → Place
lookup_place (Ok found) = entry_at found.at
lookup_place (Err s) = entry_at s.at

-- the entry that a stop names; where there is none, the place handed in
abbrev pub stop_place : {A : Type 0} → Result A (Stop Reason) → Place → Place
stop_place (Ok x) place = place
stop_place (Err s) place = entry_at s.at

-- a stop names this entry, if it is one: for the code's contracts
abbrev pub CheckNames : Result ℕ (Stop Reason) → Place → Type 0
CheckNames r place = stop_place r place ≡ place

abbrev pub StepNames : Result StepCode (Stop Reason) → Place → Type 0
StepNames r place = stop_place r place ≡ place

abbrev pub Names : Result TranslationCode (Stop Reason) → Place → Type 0
Names r place = stop_place r place ≡ place
