-- What the code answers, in VT-d's numbers, over the buffer that the flags are collected in.
use Rattle.std.specs.Prelude.{ℕ, ◌+◌, ◌≤◌, List, [], ◌≡◌, take, Result, Ok, Err}
use Rattle.image.specs.Bits.{bit}
use Rattle.image.specs.Place.{Place}
use Rattle.dma.specs.Walk.{Step, done, down}
use Rattle.faults.specs.declared.stop.Stop.{Stop}
use Rattle.pasid.specs.Answers.{stop_place}
use Rattle.pasid.specs.Reason.{number_of}
use Rattle.pasid.specs.declared.reason.ScalableReason.{ScalableReason}
use Rattle.second.specs.Second.{Walked, page, fault, Reachable, SecondHanded}
use Rattle.second.specs.declared.step.Above.{Above}
use Rattle.second.specs.declared.step.Page.{Page}
use Rattle.second.specs.declared.step.SecondStep.{SecondStep}
use Rattle.second.specs.declared.step.SecondStep.TheVariants as step

-- the joined rights are a number's two low bits, the flags so far are the buffer's first
abbrev pub handed_by : Above → (flags : List ℕ) → SecondHanded
handed_by above flags = record { top = above.top; read = bit above.rights 0; write = bit above.rights 1; flags = take above.count flags }

abbrev pub walked_of : Result Page (Stop ScalableReason) → (flags : List ℕ) → Walked
walked_of (Ok p) flags = page p.frame p.level p.writable (take p.count flags)
walked_of (Err s) flags = fault (number_of s.reason) s.fpd

abbrev pub step_of : Result SecondStep (Stop ScalableReason) → (flags : List ℕ) → Step SecondHanded Walked
step_of (Ok (step.Down table above)) flags = down table (handed_by above flags)
step_of (Ok (step.Page p)) flags = done (walked_of (Ok p) flags)
step_of (Err s) flags = done (fault (number_of s.reason) s.fpd)

-- a fault names this entry, if it is one; a page is one that a walk can answer: for the code's contracts
abbrev pub StepNames : Result SecondStep (Stop ScalableReason) → Place → Type 0
StepNames r place = stop_place r place ≡ place

abbrev pub Names : Result Page (Stop ScalableReason) → Place → Type 0
Names r place = stop_place r place ≡ place

abbrev pub StepReachable : Result SecondStep (Stop ScalableReason) → Type 0
StepReachable (Ok (step.Down table above)) = Unit {0}
StepReachable (Ok (step.Page p)) = Reachable (walked_of (Ok p) [])
StepReachable (Err s) = Unit {0}

-- how many flags there are then, of so many before
abbrev pub StepGrown : Result SecondStep (Stop ScalableReason) → (count : ℕ) → Type 0
StepGrown (Ok (step.Down table above)) count = (count ≤ above.count) × (above.count ≤ count + 1)
StepGrown (Ok (step.Page p)) count = (count ≤ p.count) × (p.count ≤ count + 2)
StepGrown (Err s) count = Unit {0}

abbrev pub Grown : Result Page (Stop ScalableReason) → (count most : ℕ) → Type 0
Grown (Ok p) count most = (count ≤ p.count) × (p.count ≤ most)
Grown (Err s) count most = Unit {0}
