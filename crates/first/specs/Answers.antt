-- What the code answers, in VT-d's numbers.
use Rattle.std.specs.Prelude.{◌≡◌, Result, Ok, Err}
use Rattle.image.specs.Place.{Place}
use Rattle.faults.specs.declared.stop.Stop.{Stop}
use Rattle.pasid.specs.Answers.{stop_place}
use Rattle.pasid.specs.Reason.{number_of}
use Rattle.pasid.specs.declared.reason.ScalableReason.{ScalableReason}
use Rattle.first.specs.First.{FirstStep, down, page, fault}
use Rattle.first.specs.declared.step.FirstStep.{FirstStep as FirstStepCode}
use Rattle.first.specs.declared.step.FirstStep.TheVariants as step

abbrev pub first_step_of : Result FirstStepCode (Stop ScalableReason) → FirstStep
first_step_of (Ok (step.Down table)) = down table
first_step_of (Ok (step.Page frame level)) = page frame level
first_step_of (Err s) = fault (number_of s.reason) s.fpd

-- a fault names this entry, if it is one: for the code's contracts
abbrev pub FirstNames : Result FirstStepCode (Stop ScalableReason) → Place → Type 0
FirstNames r place = stop_place r place ≡ place
