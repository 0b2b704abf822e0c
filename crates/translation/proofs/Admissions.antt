-- A translation request by what becomes of it at admission.
use Rattle.std.specs.Prelude.{Option, Result}
use Prim.Native.Nat.{ℕ}
use mathlib.Core.Bool.{Bool, true, false}
use mathlib.Core.List.{List}
use mathlib.Core.Path.{◌≡◌, ap, sym, ◌∙◌, subst}
use lib.ListN.{length}
use Rattle.image.specs.Memory.{Memory}
use Rattle.image.specs.Place.{Place, no_entry, stopped_at}
use Rattle.image.specs.Rules.{run}
use Rattle.image.specs.Windows.{of_windows, bad_windows}
use Rattle.image.proofs.Places.{tried-map}
use Rattle.image.proofs.Trees.{run-map}
use Rattle.registers.specs.Admission.{Admitted, refusal, pass, taken_up, admission, in_interrupt_range}
use Rattle.registers.specs.Registers.{registers_bad}
use Rattle.registers.specs.declared.Registers.{Registers}
use Rattle.faults.specs.declared.reason.Reason.{Reason}
use Rattle.faults.specs.declared.stop.Stop.{Stop}
use Rattle.translation.specs.Answers.{outcome_of, entry_of, completion_of, Names}
use Rattle.translation.specs.Completion.{completion_rules}
use Rattle.translation.specs.Requests.{TranslationOutcome, passed, refused, translation_outcome, request_rules, concerned, translation_answer, translation_answer_place}
use Rattle.translation.specs.declared.TranslationAnswer.{TranslationAnswer}
use Rattle.translation.specs.declared.TranslationRequest.{TranslationRequest}
use Rattle.translation.specs.declared.step.Page.{Page}

module _ (registers : Registers) (request : TranslationRequest) (m : Memory) where
  -- admission with the address's kind as the code found it
  abbrev admitted : Bool → Admitted
  admitted wrong = admission registers wrong registers.te

  pub refuses-bad : registers_bad registers ≡ true → refused 1 ≡ run (request_rules registers request) m
  unfolding request_rules run admission
  refuses-bad h = rw h

  module _ {wrong : Bool} (kind : wrong ≡ in_interrupt_range request.address) where
    pub refuses : {n : ℕ} → refusal n ≡ admitted wrong → refused n ≡ run (request_rules registers request) m
    unfolding request_rules run
    refuses h = rw (← kind, ← h)

    pub passes : pass ≡ admitted wrong → passed request.address ≡ run (request_rules registers request) m
    unfolding request_rules run
    passes h = rw (← kind, ← h)

    pub takes : taken_up ≡ admitted wrong
        → translation_outcome request (run (completion_rules registers request.address request.source.id) m) ≡ run (request_rules registers request) m
    unfolding request_rules
    takes h = rw (← kind, ← h) (sym (run-map (translation_outcome request) (completion_rules registers request.address request.source.id) m))

    pub takes_at_lem : taken_up ≡ admitted wrong
        → stopped_at (completion_rules registers request.address request.source.id) m ≡ stopped_at (request_rules registers request) m
    unfolding request_rules
    takes_at_lem h =
        rw (← kind, ← h)
        (sym (tried-map (translation_outcome request) no_entry (completion_rules registers request.address request.source.id) m))

-- What a call over lent memory says, where the windows aren't refused.
module _ (registers : Registers) (request : TranslationRequest) (windows bytes : List ℕ) (good : bad_windows windows (length bytes) ≡ false) where
  pub translation-told : {o : TranslationOutcome} → o ≡ run (request_rules registers request) (of_windows windows bytes)
      → (o ≡ translation_answer registers request windows bytes)
      × (concerned o (stopped_at (request_rules registers request) (of_windows windows bytes)) ≡ translation_answer_place registers request windows bytes)
  translation-told is = (rw good is, rw good (ap (λ o. concerned o (stopped_at (request_rules registers request) (of_windows windows bytes))) is))

  -- a request taken up, by what its walk answers and what is made of that
  pub translation-taken : {wrong : Bool} → wrong ≡ in_interrupt_range request.address → taken_up ≡ admission registers wrong registers.te
      → (r : TranslationAnswer) (t : Result (Option Page) (Stop Reason))
      → (outcome_of r ≡ translation_outcome request (completion_of t)) × ((place : Place) → Names t place → entry_of r ≡ concerned (outcome_of r) place)
      → (completion_of t ≡ run (completion_rules registers request.address request.source.id) (of_windows windows bytes))
      × Names t (stopped_at (completion_rules registers request.address request.source.id) (of_windows windows bytes))
      → (outcome_of r ≡ translation_answer registers request windows bytes) × (entry_of r ≡ translation_answer_place registers request windows bytes)
  translation-taken kind taken r t answers walks =
      let is = answers.0 ∙ ap (translation_outcome request) walks.0 ∙ takes registers request (of_windows windows bytes) kind taken in
      let says = translation-told is in
      (says.0, answers.1 _ (subst (Names t) (takes_at_lem registers request (of_windows windows bytes) kind taken) walks.1) ∙ says.1)
