-- What a step says, once the code knows which it is; and how many flags it adds.
use Prim.Native.Nat.{ℕ, ◌+◌, ◌≤◌}
use mathlib.Core.Bool.{Bool, true, false}
use mathlib.Core.List.{List}
use mathlib.Core.Path.{◌≡◌, ap, sym, ◌∙◌}
use native.Mathlib.Omega.{arith}
use Rattle.std.specs.Prelude.{if◌then◌else◌, Ok}
use Rattle.dma.specs.Walk.{Step}
use Rattle.second.specs.Answers.{step_of}
use Rattle.second.specs.Second.{Walked, SecondHanded}
use Rattle.second.specs.declared.step.SecondStep.{SecondStep}

pub told : (flags : List ℕ) {r it : SecondStep} {x : Step SecondHanded Walked} → r ≡ it → step_of (Ok r) flags ≡ x → step_of (Ok it) flags ≡ x
told flags is says = sym (ap (λ (s : SecondStep). step_of (Ok s) flags) is) ∙ says

pub at_most_two : (n r : ℕ) (t : Bool) → r ≤ n + (if t then 2 else 1) → r ≤ n + 2
at_most_two n r true h = h
at_most_two n r false h = omega arith
