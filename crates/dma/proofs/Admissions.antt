-- A memory request by what becomes of it at admission.
use Rattle.std.specs.Prelude.{Result}
use Prim.Native.Nat.{ℕ, ◌%◌}
use mathlib.Core.Bool.{Bool, true, false}
use mathlib.Core.List.{List}
use mathlib.Core.Path.{◌≡◌, ap, sym, ◌∙◌, subst}
use lib.ListN.{length}
use Rattle.image.specs.Memory.{Memory}
use Rattle.image.specs.Place.{Place, no_entry, stopped_at}
use Rattle.image.specs.Rules.{run}
use Rattle.image.specs.Windows.{of_windows, bad_windows}
use Rattle.image.proofs.Places.{tried-map}
use Rattle.image.proofs.Trees.{run-map}
use Rattle.registers.proofs.Good.{taken-good}
use Rattle.registers.specs.Admission.{Admitted, refusal, pass, taken_up, admission, in_interrupt_range}
use Rattle.registers.specs.Registers.{registers_bad}
use Rattle.registers.specs.declared.Registers.{Registers}
use Rattle.dma.specs.Answers.{outcome_of, entry_of, translation_of, Names}
use Rattle.dma.specs.Requests.{MemoryOutcome, granted, refused, memory_outcome, memory_rules, concerned, memory_answer, memory_answer_place}
use Rattle.dma.specs.Translation.{translation_rules}
use Rattle.dma.specs.declared.MemoryAnswer.{MemoryAnswer}
use Rattle.dma.specs.declared.MemoryRequest.{MemoryRequest}
use Rattle.dma.specs.declared.translation.Translation.{Translation as TranslationCode}
use Rattle.faults.specs.declared.reason.Reason.{Reason}
use Rattle.faults.specs.declared.stop.Stop.{Stop}

-- registers under which a request is taken up have a root table that begins a page
pub taken-root : (registers : Registers) (wrong on : Bool) → taken_up ≡ admission registers wrong on → registers.root_table % 4096 ≡ 0
taken-root registers wrong on h = (taken-good registers wrong on h).root.aligned

module _ (registers : Registers) (request : MemoryRequest) (m : Memory) where
  -- admission with the address's kind as the code found it
  abbrev admitted : Bool → Admitted
  admitted wrong = admission registers wrong registers.te

  pub refuses-bad : registers_bad registers ≡ true → refused 1 ≡ run (memory_rules registers request) m
  unfolding memory_rules run admission
  refuses-bad h = rw h

  module _ {wrong : Bool} (kind : wrong ≡ in_interrupt_range request.address) where
    pub refuses : {n : ℕ} → refusal n ≡ admitted wrong → refused n ≡ run (memory_rules registers request) m
    unfolding memory_rules run
    refuses h = rw (← kind, ← h)

    pub passes : pass ≡ admitted wrong → granted request.address ≡ run (memory_rules registers request) m
    unfolding memory_rules run
    passes h = rw (← kind, ← h)

    pub takes : taken_up ≡ admitted wrong
        → memory_outcome request (run (translation_rules registers request.address request.write request.source.id) m) ≡ run (memory_rules registers request) m
    unfolding memory_rules
    takes h = rw (← kind, ← h) (sym (run-map (memory_outcome request) (translation_rules registers request.address request.write request.source.id) m))

    pub takes_at_lem : taken_up ≡ admitted wrong
        → stopped_at (translation_rules registers request.address request.write request.source.id) m ≡ stopped_at (memory_rules registers request) m
    unfolding memory_rules
    takes_at_lem h =
        rw (← kind, ← h)
        (sym (tried-map (memory_outcome request) no_entry (translation_rules registers request.address request.write request.source.id) m))

-- What a call over lent memory says, where the windows aren't refused.
module _ (registers : Registers) (request : MemoryRequest) (windows bytes : List ℕ) (good : bad_windows windows (length bytes) ≡ false) where
  pub memory-told : {o : MemoryOutcome} → o ≡ run (memory_rules registers request) (of_windows windows bytes)
      → (o ≡ memory_answer registers request windows bytes)
      × (concerned o (stopped_at (memory_rules registers request) (of_windows windows bytes)) ≡ memory_answer_place registers request windows bytes)
  memory-told is = (rw good is, rw good (ap (λ o. concerned o (stopped_at (memory_rules registers request) (of_windows windows bytes))) is))

  -- a request taken up, by what its walk answers and what is made of that
  pub memory-taken : {wrong : Bool} → wrong ≡ in_interrupt_range request.address → taken_up ≡ admission registers wrong registers.te
      → (r : MemoryAnswer) (t : Result TranslationCode (Stop Reason))
      → (outcome_of r ≡ memory_outcome request (translation_of t)) × ((place : Place) → Names t place → entry_of r ≡ concerned (outcome_of r) place)
      → (translation_of t ≡ run (translation_rules registers request.address request.write request.source.id) (of_windows windows bytes))
      × Names t (stopped_at (translation_rules registers request.address request.write request.source.id) (of_windows windows bytes))
      → (outcome_of r ≡ memory_answer registers request windows bytes) × (entry_of r ≡ memory_answer_place registers request windows bytes)
  memory-taken kind taken r t answers walks =
      let is = answers.0 ∙ ap (memory_outcome request) walks.0 ∙ takes registers request (of_windows windows bytes) kind taken in
      let says = memory-told is in
      (says.0, answers.1 _ (subst (Names t) (takes_at_lem registers request (of_windows windows bytes) kind taken) walks.1) ∙ says.1)
