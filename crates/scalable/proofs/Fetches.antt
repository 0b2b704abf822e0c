-- What the code tells of a stage of the lookup, by what its fetch and its check said.
use Prim.Native.Nat.{ℕ}
use mathlib.Core.Path.{◌≡◌, ap, ◌∙◌}
use Rattle.image.specs.Check.{Check, stop, go, on_check}
use Rattle.image.specs.EntryKind.{EntryKind, words_of}
use Rattle.image.specs.Memory.{Memory, missing, found, entry}
use Rattle.image.specs.Place.{Place, entry_at, last_tried}
use Rattle.image.specs.Rules.{Rules, answer, run}
use Rattle.image.specs.Stage.{stage}
use Rattle.image.proofs.Places.{unfetched-at, checked-at}
use Rattle.image.proofs.Stages.{unfetched, checked}
use Rattle.scalable.specs.Lookup.{Lookup}

-- an answer and the entry tried last are those of rules
abbrev pub Tells : Lookup → Place → Rules Lookup → Memory → Type 0
Tells l place q m = (l ≡ run q m) × ((before : Place) → place ≡ last_tried before q m)

module _ {B : Type 0} (kind : EntryKind) (at : ℕ) (absent : Lookup) (check : ℕ → Check B) (stopped : ℕ → ℕ → Lookup) (next : B → Rules Lookup)
    (m : Memory) where
  abbrev this : Rules Lookup
  this = stage kind at absent check stopped next

  pub no-entry : {place : Place} → missing ≡ entry (words_of kind) m at → place ≡ entry_at at → Tells absent place this m
  no-entry none there = (
    unfetched kind at absent check stopped next m none,
    λ before. there ∙ unfetched-at kind at absent check stopped next before m none,
  )

  module _ {e : ℕ} (here : found e ≡ entry (words_of kind) m at) where
    pub stops : {reason : ℕ} {place : Place} → stop reason ≡ check e → place ≡ entry_at at → Tells (stopped e reason) place this m
    unfolding run last_tried
    stops told there =
        let rest = ap (λ k. on_check k (λ reason. answer (stopped e reason)) next) told in (
          checked kind at absent check stopped next m here rest,
          λ before. there ∙ checked-at kind at absent check stopped next before m here rest,
        )

    pub goes : {b : B} {l : Lookup} {place : Place} → go b ≡ check e → l ≡ run (next b) m → place ≡ last_tried (entry_at at) (next b) m → Tells l place this m
    goes told says there =
        let rest = ap (λ k. on_check k (λ reason. answer (stopped e reason)) next) told in (
          says ∙ checked kind at absent check stopped next m here rest,
          λ before. there ∙ checked-at kind at absent check stopped next before m here rest,
        )
