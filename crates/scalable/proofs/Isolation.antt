-- Every answer to an entry that can't be fetched is an access fault, so any other is settled by the named words.
use Prim.Native.Nat.{ℕ}
use mathlib.Core.Bool.{Bool, true, false}
use mathlib.Core.Path.{◌≡◌, ap₂, sym, ◌∙◌}
use native.Mathlib.Omega.{arith}
use Rattle.image.specs.Place.{no_entry}
use Rattle.image.specs.Rules.{run}
use Rattle.image.proofs.Local.{local}
use Rattle.image.proofs.Places.{local-place}
use Rattle.image.proofs.Trees.{met}
use Rattle.dma.specs.Requests.{concerned}
use Rattle.nested.proofs.Forks.{forks-outside}
use Rattle.scalable.specs.Isolation.{ScalableLocality}
use Rattle.scalable.specs.Requests.{Decision, scalable_rules}
use Rattle.scalable.proofs.Requests.{AccessFault, request-forks}

pub scalable-locality : ScalableLocality
scalable-locality registers request m m' answered same =
    let q = scalable_rules registers request in
    let no_access : AccessFault (run q m) → ⊥ = λ ended. let z : ◌≡◌ {A = Bool} true false = sym ended ∙ answered in let y : ◌≡◌ {A = ℕ} 0 1 = cc in omega arith in
    let all = met AccessFault q m (forks-outside AccessFault 50 q (request-forks registers request)) no_access in
    let alike = local q m m' all same in
    (sym alike, sym (ap₂ (λ (d : Decision). concerned d.outcome) alike (local-place no_entry q m m' all same)))
