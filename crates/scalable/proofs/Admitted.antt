-- A request by what becomes of it at admission.
use Prim.Native.Nat.{ℕ}
use mathlib.Core.Bool.{Bool, true, false}
use mathlib.Core.List.{List}
use mathlib.Core.Path.{◌≡◌, refl, ap, sym, ◌∙◌}
use lib.ListN.{length}
use Rattle.image.specs.Memory.{Memory}
use Rattle.image.specs.Place.{Place, no_entry, stopped_at}
use Rattle.image.specs.Rules.{Rules, run}
use Rattle.image.specs.Windows.{of_windows, bad_windows}
use Rattle.image.proofs.Places.{tried-map}
use Rattle.image.proofs.Trees.{run-map}
use Rattle.registers.specs.Admission.{refusal, pass, taken_up, admission, in_interrupt_range}
use Rattle.dma.specs.Requests.{MemoryOutcome, granted, refused, concerned}
use Rattle.flags.specs.Flags.{set_flags}
use Rattle.pasid.specs.declared.ScalableRegisters.{ScalableRegisters}
use Rattle.scalable.specs.Requests.{Translation, pasid_too_wide, translation_rules, Decision, say_only, decision, taken_rules, scalable_rules, scalable_place, scalable_decision, scalable_answer, scalable_answer_place, scalable_written}
use Rattle.scalable.specs.declared.ScalableRequest.{ScalableRequest}

module _ (r : ScalableRegisters) (q : ScalableRequest) (m : Memory) where
  abbrev pub rules : Rules Translation
  rules = translation_rules r q.address q.write q.pasid q.source.id

  -- admission with the address's kind as the code found it
  module _ {wrong : Bool} (kind : wrong ≡ in_interrupt_range q.address) where
    pub refuses : {n : ℕ} → refusal n ≡ admission r.base wrong r.base.te → say_only (refused n) ≡ run (scalable_rules r q) m
    unfolding scalable_rules run
    refuses h = rw (← kind, ← h)

    pub passes-wide : pass ≡ admission r.base wrong r.base.te → pasid_too_wide q.pasid ≡ true → say_only (refused 6) ≡ run (scalable_rules r q) m
    unfolding scalable_rules run
    passes-wide h is = rw (← kind, ← h, is)

    pub passes : pass ≡ admission r.base wrong r.base.te → pasid_too_wide q.pasid ≡ false → say_only (granted q.address) ≡ run (scalable_rules r q) m
    unfolding scalable_rules run
    passes h is = rw (← kind, ← h, is)

    pub takes : taken_up ≡ admission r.base wrong r.base.te → taken_rules r q ≡ scalable_rules r q
    unfolding scalable_rules
    takes h = rw (← kind, ← h)

  -- and past it the PASID's width
  pub too_wide : pasid_too_wide q.pasid ≡ true → say_only (refused 6) ≡ run (taken_rules r q) m
  unfolding run
  too_wide is = rw is

  pub narrow : pasid_too_wide q.pasid ≡ false → decision q (run rules m) ≡ run (taken_rules r q) m
  narrow is = rw is (sym (run-map (decision q) rules m))

  pub narrow_at : pasid_too_wide q.pasid ≡ false → stopped_at rules m ≡ stopped_at (taken_rules r q) m
  narrow_at is = rw is (sym (tried-map (decision q) no_entry rules m))

-- what is said over lent memory, whose windows aren't refused
module _ (r : ScalableRegisters) (q : ScalableRequest) (windows bytes : List ℕ) (good : bad_windows windows (length bytes) ≡ false) where
  abbrev m : Memory
  m = of_windows windows bytes

  decided : run (scalable_rules r q) m ≡ scalable_decision r q windows bytes
  decided = rw good refl

  placed : scalable_place r q m ≡ scalable_answer_place r q windows bytes
  placed = rw good refl

  -- with nothing written
  pub said : (o : MemoryOutcome) → say_only o ≡ run (scalable_rules r q) m
      → (o ≡ scalable_answer r q windows bytes)
      × ((concerned o (stopped_at (scalable_rules r q) m) ≡ scalable_answer_place r q windows bytes) × (bytes ≡ scalable_written r q windows bytes))
  unfolding set_flags
  said o is = (
    ap (λ (d : Decision). d.outcome) (is ∙ decided),
    (ap (λ (d : Decision). concerned d.outcome (stopped_at (scalable_rules r q) m)) is ∙ placed, ap (λ (d : Decision). set_flags windows d.flags bytes) (is ∙ decided)),
  )

  -- of a request that is taken up
  pub taken-said : taken_rules r q ≡ scalable_rules r q → {o : MemoryOutcome} {place : Place} {after : List ℕ} → o ≡ (run (taken_rules r q) m).outcome
      → place ≡ concerned o (stopped_at (taken_rules r q) m) → after ≡ set_flags windows (run (taken_rules r q) m).flags bytes
      → (o ≡ scalable_answer r q windows bytes) × ((place ≡ scalable_answer_place r q windows bytes) × (after ≡ scalable_written r q windows bytes))
  taken-said same {o} says names leaves =
      let ran = ap (λ (t : Rules Decision). run t m) same in
      let told : o ≡ (run (scalable_rules r q) m).outcome = says ∙ ap (λ (d : Decision). d.outcome) ran in (
        told ∙ ap (λ (d : Decision). d.outcome) decided,
        (
          names ∙ ap (λ (t : Rules Decision). concerned o (stopped_at t m)) same ∙ ap (λ (o : MemoryOutcome). concerned o (stopped_at (scalable_rules r q) m)) told ∙ placed,
          leaves ∙ ap (λ (d : Decision). set_flags windows d.flags bytes) (ran ∙ decided),
        ),
      )

-- windows that are refused
pub bad-said : (r : ScalableRegisters) (q : ScalableRequest) (windows bytes : List ℕ) → bad_windows windows (length bytes) ≡ true
    → (refused 1 ≡ scalable_answer r q windows bytes) × ((no_entry ≡ scalable_answer_place r q windows bytes) × (bytes ≡ scalable_written r q windows bytes))
unfolding set_flags
bad-said r q windows bytes bad =
    let says : say_only (refused 1) ≡ scalable_decision r q windows bytes = rw bad refl in
    let names : no_entry ≡ scalable_answer_place r q windows bytes = rw bad refl in
    (ap (λ (d : Decision). d.outcome) says, (names, ap (λ (d : Decision). set_flags windows d.flags bytes) says))
