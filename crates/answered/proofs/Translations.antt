-- Entries of translation requests.
use Prim.Native.Nat.{ℕ, zero, suc, ◌+◌, ◌*◌, ◌<◌, ◌≤◌}
use mathlib.Core.Bool.{Bool, true, false}
use mathlib.Core.List.{List}
use mathlib.Core.Path.{◌≡◌, refl, ap, sym, ◌∙◌, subst}
use native.Mathlib.Omega.{arith}
use lib.Dec.{leb}
use lib.ListN.{length}
use Rattle.image.specs.Bits.{bits, bit, in_place}
use Rattle.std.specs.Prelude.{if◌then◌else◌}
use Rattle.image.specs.Choice.{one-if}
use Rattle.image.specs.EntryKind.{EntryKind}
use Rattle.image.specs.Memory.{Memory}
use Rattle.image.specs.Place.{Place, no_entry, stopped_at}
use Rattle.image.specs.Rules.{Rules, run, map_rules}
use Rattle.image.specs.Windows.{bad_windows, of_windows}
use Rattle.image.proofs.Choices.{either}
use Rattle.image.proofs.Forks.{Every, every-answer, every_more, every-run}
use Rattle.image.proofs.Trees.{run-map}
use Rattle.registers.specs.Admission.{Admitted, admission, on_admission, in_interrupt_range}
use Rattle.registers.specs.Registers.{registers_bad}
use Rattle.registers.specs.declared.Registers.{Registers}
use Rattle.faults.specs.Record.{translation_record, translation_fault}
use Rattle.dma.specs.InterruptRange.{meets_interrupt_range, span_at}
use Rattle.dma.specs.Walk.{done}
use Rattle.dma.proofs.Lookups.{every-lookup}
use Rattle.dma.proofs.Walks.{every-walk}
use Rattle.translation.specs.Completion.{Completion, page, empty, fault, entry_step, type_rules, completion_rules}
use Rattle.translation.specs.Requests.{TranslationOutcome, passed, translated, blocked, refused, translation_outcome, request_rules, concerned, translation_answer, translation_answer_place}
use Rattle.translation.specs.Rights.{both, joined}
use Rattle.translation.specs.declared.Rights.{Rights}
use Rattle.translation.specs.declared.TranslationRequest.{TranslationRequest}
use Rattle.translation.proofs.Entries.{step-cases, page-low}
use Rattle.translation.proofs.Forks.{type-cases}
use Rattle.traced.specs.Well.{well_traced, well_reason}
use Rattle.answered.specs.Answered.{plain, fault_traced, width_of, translation_traced}
use Rattle.answered.specs.Claims.{translation_entry}
use Rattle.answered.specs.Told.{translation_in, translation_outcome_in, concerned_in, fault_in, size_in}
use Rattle.answered.proofs.Faults.{Stops, root-stops, context-stops, fault-place, fault-told, fault-well, fault-cases}

-- 01h to 0Dh
abbrev Reason : ℕ → Type 0
Reason n = well_reason (plain 4 0 0 0 2 n 0 0) ≡ true

-- a page has one of three sizes
abbrev Says : Completion → Type 0
Says (page frame level rights) = (0 < level) × (level ≤ 3)
Says empty = Unit {0}
Says (fault reason fpd) = Reason reason

three : (P : ℕ → Type 0) → P 1 → P 2 → P 3 → (level : ℕ) → 0 < level → level ≤ 3 → P level
three P first second third zero more few = absurd (omega arith)
three P first second third (suc zero) more few = first
three P first second third (suc (suc zero)) more few = second
three P first second third (suc (suc (suc zero))) more few = third
three P first second third (suc (suc (suc (suc n)))) more few = absurd (omega arith)

-- a page's flags are below 4
abbrev rights_of : Rights → ℕ
rights_of rights = one-if rights.read + 2 * one-if rights.write

rights-told : (rights : Rights) → ◌≡◌ {A = Rights} (record { read = bit (rights_of rights) 0; write = bit (rights_of rights) 1 }) rights
unfolding bits
rights-told rights = by rights.read rights.write
  where
    by : (r w : Bool)
        → ◌≡◌ {A = Rights} (record { read = bit (one-if r + 2 * one-if w) 0; write = bit (one-if r + 2 * one-if w) 1 }) (record { read = r; write = w })
    by true true = refl
    by true false = refl
    by false true = refl
    by false false = refl

rights-few : (rights : Rights) → leb (rights_of rights) 3 ≡ true
rights-few rights = by rights.read rights.write
  where
    by : (r w : Bool) → leb (one-if r + 2 * one-if w) 3 ≡ true
    by true true = refl
    by true false = refl
    by false true = refl
    by false false = refl

module _ (registers : Registers) (q : TranslationRequest) where
  abbrev rules : Rules Completion
  rules = completion_rules registers q.address q.source.id

  abbrev Fork : EntryKind → ℕ → Completion → Type 0
  Fork kind at c = Says c

  step-says : (fpd : Bool) (n place : ℕ) (s : Rights) (e : ℕ) (c : Completion) → n < 5
      → done c ≡ entry_step registers fpd (suc n) place s e → Says c
  step-says fpd n place s e c few =
      step-cases registers fpd (suc n) place s e (λ x. done c ≡ x → Says c)
      (λ none h. let is : c ≡ empty = cc in rw is tt)
      (λ any set h. let is : c ≡ fault 0x0C fpd = cc in rw is refl)
      (λ any free none h. let is : c ≡ empty = cc in rw is tt)
      (λ any free left leaf h.
      let is : c ≡ page (in_place e 51 12) (suc n) (joined s e) = cc in
      rw is (omega arith, page-low registers (suc n) s e any free left leaf))
      (λ any free left more h. let z : ◌≡◌ {A = ℕ} 0 1 = cc in absurd (omega arith))

  completion-says : (m : Memory) → Says (run rules m)
  completion-says m =
      every-run Fork Says (λ kind at c is. is) 9 rules m
      (every-lookup Fork Says 5 registers fault (type_rules registers q.address) q.source.id
      refl (λ e table led. refl)
      (λ e reason told. subst (Stops Reason) told (root-stops Reason refl refl registers.haw e))
      (λ e reason told. subst (Stops Reason) told (context-stops Reason refl refl refl registers e))
      (λ c good.
      type-cases (Every Fork Says 5) registers q.address c
      (every-answer Fork Says 5 (fault 0x0D c.fpd) refl)
      (every-answer Fork Says 5 empty tt)
      (every_more Fork Says c.levels 5 _ good.1
      (every-walk q.address (λ s. fault 0x07 c.fpd) (entry_step registers c.fpd) Fork Says (λ level table. Unit {0}) 5
      (λ table s h. refl) (λ n table s h. refl) (step-says c.fpd) (λ n place s e next t h. tt)
      c.levels c.top both good.1 tt))))

  -- what an answer is: a refusal's number, a fault's reason and record, a page's size
  abbrev Answers : TranslationOutcome → Type 0
  Answers (passed address) = Unit {0}
  Answers (translated frame size rights) =
      (size_in (plain 4 0 0 0 8 (width_of size) 0 0) ≡ size) × (well_traced (plain 4 0 0 0 8 (width_of size) (rights_of rights) frame) ≡ true)
  Answers (blocked f) = Reason f.reason × (f.contents ≡ translation_record q.source.id q.address f.reason)
  Answers (refused n) = well_traced (plain 4 0 0 0 1 n 0 0) ≡ true

  page-answers : (frame : ℕ) (rights : Rights) (level : ℕ) → 0 < level → level ≤ 3 → Answers (translated frame (span_at level) rights)
  unfolding well_traced
  page-answers frame rights =
      let few = rights-few rights in
      three (λ level. Answers (translated frame (span_at level) rights)) (refl, rw few) (refl, rw few) (refl, rw few)

  outcome-answers : (c : Completion) → Says c → Answers (translation_outcome q c)
  unfolding translation_fault well_traced
  outcome-answers (page frame level rights) h =
      either Answers (meets_interrupt_range frame (span_at level)) refl (page-answers frame rights level h.0 h.1)
  outcome-answers empty h = (refl, refl)
  outcome-answers (fault reason fpd) h = (h, refl)

  answers : (m : Memory) → Answers (run (request_rules registers q) m)
  unfolding request_rules admission run well_traced
  answers m =
      either By (registers_bad registers) refl
      (either By (in_interrupt_range q.address) refl
      (either By registers.te (subst Answers (sym (run-map (translation_outcome q) rules m)) (outcome-answers (run rules m) (completion-says m))) tt))
    where
      By : Admitted → Type 0
      By k = Answers (run (on_admission k refused (passed q.address) (map_rules (translation_outcome q) rules)) m)

  well : (o : TranslationOutcome) (p : Place) → Answers o → well_traced (translation_traced q o (concerned o p)) ≡ true
  unfolding translation_traced well_traced
  well (passed address) p h = refl
  well (translated frame size rights) p h = h.1
  well (blocked f) p h = fault-well 4 q.source.id q.address 0 f p refl h.0
  well (refused n) p h = h

  abbrev Told : TranslationOutcome → Place → Type 0
  Told o p =
      (translation_in (translation_traced q o p) ≡ q)
      × (translation_outcome_in (translation_traced q o p) ≡ o)
      × (concerned_in (translation_traced q o p) ≡ p)

  told : (o : TranslationOutcome) (p : Place) → Answers o → Told o (concerned o p)
  unfolding translation_traced
  told (passed address) p h = (refl, refl, refl)
  told (translated frame size rights) p h = (refl, rw (h.0, rights-told rights), refl)
  told (refused n) p h = (refl, refl, refl)
  told (blocked f) p h =
      let e = fault_traced 4 q.source.id q.address 0 f p in
      let record-told : (flags value : ℕ) → translation_outcome_in (plain 4 q.source.id q.address 0 2 f.reason flags value)
      ≡ blocked (fault_in (plain 4 q.source.id q.address 0 2 f.reason flags value) f.contents) =
      λ flags value. rw h.1 in (
        fault-cases 4 q.source.id q.address 0 (λ e. translation_in e ≡ q) f p (λ flags value. refl),
        fault-cases 4 q.source.id q.address 0 (λ e. translation_outcome_in e ≡ blocked (fault_in e f.contents)) f p record-told
            ∙ ap blocked (fault-told 4 q.source.id q.address 0 f p),
        fault-place 4 q.source.id q.address 0 f p,
      )

  module _ (windows bytes : List ℕ) where
    -- an answer over lent memory, with the entry concerned in it
    lent : (P : TranslationOutcome → Place → Type 0) → ((o : TranslationOutcome) (p : Place) → Answers o → P o (concerned o p))
        → P (translation_answer registers q windows bytes) (translation_answer_place registers q windows bytes)
    unfolding well_traced
    lent P h = by (bad_windows windows (length bytes))
      where
        m : Memory
        m = of_windows windows bytes

        o : TranslationOutcome
        o = run (request_rules registers q) m

        by : (bad : Bool) → P (if bad then refused 1 else o) (if bad then no_entry else concerned o (stopped_at (request_rules registers q) m))
        by true = h (refused 1) no_entry refl
        by false = h o (stopped_at (request_rules registers q) m) (answers m)

    pub translation-well : well_traced (translation_entry registers windows bytes q) ≡ true
    unfolding translation_entry
    translation-well = lent (λ o p. well_traced (translation_traced q o p) ≡ true) well

    pub translation-told : (translation_in (translation_entry registers windows bytes q) ≡ q)
        × (translation_outcome_in (translation_entry registers windows bytes q) ≡ translation_answer registers q windows bytes)
        × (concerned_in (translation_entry registers windows bytes q) ≡ translation_answer_place registers q windows bytes)
    unfolding translation_entry
    translation-told = lent Told told
