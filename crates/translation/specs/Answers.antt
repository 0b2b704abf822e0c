-- What the code's enums say, in document 02's values.
use Rattle.std.specs.Prelude.{ℕ, ◌≡◌, Option, Some, None, Result, Ok, Err}
use Rattle.image.specs.Answers.{place_of}
use Rattle.image.specs.Place.{Place, no_entry}
use Rattle.faults.specs.Answers.{fault_of}
use Rattle.faults.specs.Reason.{number_of}
use Rattle.faults.specs.declared.reason.Reason.{Reason}
use Rattle.faults.specs.declared.stop.Stop.{Stop}
use Rattle.dma.specs.Answers.{stop_place}
use Rattle.dma.specs.Walk.{Step, done, down}
use Rattle.translation.specs.Completion.{Completion, page, empty, fault}
use Rattle.translation.specs.Requests.{TranslationOutcome, passed, translated, blocked, refused}
use Rattle.translation.specs.Rights.{neither}
use Rattle.translation.specs.declared.step.Page.{Page as PageCode}
use Rattle.translation.specs.declared.step.Step.{Step as StepCode}
use Rattle.translation.specs.declared.step.Step.TheVariants as step
use Rattle.translation.specs.declared.Rights.{Rights}
use Rattle.translation.specs.declared.PageSize.{PageSize}
use Rattle.translation.specs.declared.PageSize.TheVariants.{FourKiB, TwoMiB, OneGiB}
use Rattle.translation.specs.declared.TranslationAnswer.{TranslationAnswer}
use Rattle.translation.specs.declared.TranslationAnswer.TheVariants.{Passed, Page, Empty, Blocked, Refused}

abbrev pub completion_of : Result (Option PageCode) (Stop Reason) → Completion
completion_of (Ok (Some p)) = page p.frame p.level p.rights
completion_of (Ok None) = empty
completion_of (Err s) = fault (number_of s.reason) s.fpd

abbrev pub step_of : Result StepCode (Stop Reason) → Step Rights Completion
step_of (Ok (step.Down table rights)) = down table rights
step_of (Ok (step.Page p)) = done (page p.frame p.level p.rights)
step_of (Ok step.Empty) = done empty
step_of (Err s) = done (fault (number_of s.reason) s.fpd)

-- a fault names this entry, if it is one: for the code's contracts
abbrev pub StepNames : Result StepCode (Stop Reason) → Place → Type 0
StepNames r place = stop_place r place ≡ place

abbrev pub Names : Result (Option PageCode) (Stop Reason) → Place → Type 0
Names r place = stop_place r place ≡ place

-- in bytes
abbrev pub size_of : PageSize → ℕ
size_of FourKiB = 0x1000
size_of TwoMiB = 0x20_0000
size_of OneGiB = 0x4000_0000

-- the empty answer is a case of its own: document 02's values for it are both bits off, frame and size 0
abbrev pub outcome_of : TranslationAnswer → TranslationOutcome
outcome_of (Passed address) = passed address
outcome_of (Page frame size rights) = translated frame (size_of size) rights
outcome_of Empty = translated 0 0 neither
outcome_of (Blocked f place) = blocked (fault_of f)
outcome_of (Refused number) = refused number

-- the entry concerned, as the answer names it: only a blocked request has one
abbrev pub entry_of : TranslationAnswer → Place
entry_of (Passed address) = no_entry
entry_of (Page frame size rights) = no_entry
entry_of Empty = no_entry
entry_of (Blocked f place) = place_of place
entry_of (Refused number) = no_entry
