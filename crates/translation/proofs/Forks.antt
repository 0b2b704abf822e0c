-- What every fork of a translation request's rules satisfies, and every answer.
use Prim.Native.Nat.{ℕ, suc, ◌%◌, ◌<◌, ◌≤◌}
use mathlib.Core.Bool.{Bool, true, false, ◌||◌}
use mathlib.Core.Path.{◌≡◌, refl}
use native.Mathlib.Omega.{arith}
use lib.Dec.{eqb, lit≤}
use Rattle.image.specs.Bits.{in_place}
use Rattle.image.specs.Check.{Check, stop}
use Rattle.std.specs.Prelude.{if◌then◌else◌}
use Rattle.image.specs.EntryKind.{EntryKind}
use Rattle.image.specs.Memory.{Memory}
use Rattle.image.specs.Rules.{Rules, answer, run, map_rules}
use Rattle.image.proofs.Choices.{either}
use Rattle.image.proofs.Fields.{in-place-lt}
use Rattle.image.proofs.Forks.{Every, every-answer, every_more, every-run, every_map, every-weaken}
use Rattle.registers.specs.Admission.{Admitted, refusal, pass, taken_up, admission, on_admission, in_interrupt_range}
use Rattle.registers.specs.declared.Registers.{Registers}
use Rattle.faults.specs.Record.{translation_fault}
use Rattle.dma.specs.Context.{fault_processing_disabled}
use Rattle.dma.specs.InterruptRange.{meets_interrupt_range, span_at}
use Rattle.dma.specs.Translation.{overflows}
use Rattle.dma.specs.Walk.{done, down}
use Rattle.dma.specs.declared.context.Context.{Context}
use Rattle.dma.proofs.Admissions.{taken-root}
use Rattle.dma.proofs.Lookups.{every-lookup}
use Rattle.dma.proofs.Reasons.{Otherwise, no_access, root-otherwise, context-otherwise}
use Rattle.dma.proofs.Stages.{root-aligned}
use Rattle.dma.proofs.Stepped.{more-levels}
use Rattle.dma.proofs.Walks.{every-walk}
use Rattle.translation.specs.Claims.{access_fault}
use Rattle.translation.specs.Completion.{Completion, page, empty, fault, Reachable, entry_step, joined_rules, type_rules, completion_rules}
use Rattle.translation.specs.Requests.{TranslationOutcome, passed, translated, refused, translation_outcome, request_rules}
use Rattle.translation.specs.Rights.{both, joined}
use Rattle.translation.specs.declared.Rights.{Rights}
use Rattle.translation.specs.declared.TranslationRequest.{TranslationRequest}
use Rattle.translation.proofs.Entries.{step-cases, page-low}

-- an entry that can't be fetched is answered with an access fault; every entry is at a multiple of 8
abbrev pub Fork : EntryKind → ℕ → TranslationOutcome → Type 0
Fork kind at o = (access_fault o ≡ true) × (at % 8 ≡ 0)

-- and no other answer is an access fault
abbrev pub Ends : TranslationOutcome → Type 0
Ends o = access_fault o ≡ true → ⊥

-- what follows a context, by its ways
pub type-cases : (P : Rules Completion → Type 0) (registers : Registers) (address : ℕ) (c : Context)
    → P (answer (fault 0x0D c.fpd))
    → P (answer empty)
    → P (joined_rules registers address c.fpd c.levels c.top both)
    → P (type_rules registers address c)
unfolding type_rules
type-cases P registers address c blocked wide walks =
    either P (eqb c.translation_type 0 || eqb c.translation_type 2) blocked (either P (overflows registers c.levels address) wide walks)

module _ (registers : Registers) (request : TranslationRequest) where
  abbrev rules : Rules Completion
  rules = completion_rules registers request.address request.source.id

  abbrev Asks : EntryKind → ℕ → Completion → Type 0
  Asks kind at c = Fork kind at (translation_outcome request c)

  -- what is answered to entries that were fetched
  abbrev Says : Completion → Type 0
  Says c = Reachable c × Ends (translation_outcome request c)

  page-ends : (frame level : ℕ) (rights : Rights) → Ends (translation_outcome request (page frame level rights))
  page-ends frame level rights = by (meets_interrupt_range frame (span_at level))
    where
      by : (meets : Bool) → Ends (if meets then refused 4 else translated frame (span_at level) rights)
      by true is = let z : ◌≡◌ {A = ℕ} 0 1 = cc in omega arith
      by false is = let z : ◌≡◌ {A = ℕ} 0 1 = cc in omega arith

  empty-says : Says empty
  empty-says = (tt, λ is. let z : ◌≡◌ {A = ℕ} 0 1 = cc in omega arith)

  stops : {A : Type 0} (k : Check A) (reason : ℕ) (fpd : Bool) → Otherwise k → k ≡ stop reason → Says (fault reason fpd)
  unfolding translation_fault
  stops k reason fpd other told = (tt, no_access k reason other told)

  step-says : (fpd : Bool) (n place : ℕ) (s : Rights) (e : ℕ) (c : Completion) → n < 5
      → done c ≡ entry_step registers fpd (suc n) place s e → Says c
  step-says fpd n place s e c few =
      step-cases registers fpd (suc n) place s e (λ x. done c ≡ x → Says c)
      (λ none h. let is : c ≡ empty = cc in rw is empty-says)
      (λ any set h. let is : c ≡ fault 0x0C fpd = cc in rw is (stops {A = ℕ} (stop 0x0C) 0x0C fpd refl refl))
      (λ any free none h. let is : c ≡ empty = cc in rw is empty-says)
      (λ any free left leaf h.
      let is : c ≡ page (in_place e 51 12) (suc n) (joined s e) = cc in
      rw is ((in-place-lt e 51 12 (lit≤ tt), omega arith, page-low registers (suc n) s e any free left leaf), page-ends (in_place e 51 12) (suc n) (joined s e)))
      (λ any free left more h. let z : ◌≡◌ {A = ℕ} 0 1 = cc in absurd (omega arith))

  -- a table below which there are levels, at a multiple of 8
  abbrev Table : (level table : ℕ) → Type 0
  Table level table = (table % 8 ≡ 0) × (0 < level)

  walk-forks : (fpd : Bool) (levels top : ℕ) → levels ≤ 5 → Table levels top
      → Every Asks Says levels (joined_rules registers request.address fpd levels top both)
  unfolding translation_fault
  walk-forks fpd levels top few here =
      every-walk request.address (λ s. fault 0x07 fpd) (entry_step registers fpd) Asks Says Table 5
      (λ table s h. absurd (omega (arith, h.1))) (λ n table s h. (refl, omega (arith, h.0))) (step-says fpd)
      (λ n place s e next t.
      step-cases registers fpd (suc n) place s e (λ x. down next t ≡ x → Table n next)
      (λ none h. let z : ◌≡◌ {A = ℕ} 0 1 = cc in absurd (omega arith))
      (λ any set h. let z : ◌≡◌ {A = ℕ} 0 1 = cc in absurd (omega arith))
      (λ any free none h. let z : ◌≡◌ {A = ℕ} 0 1 = cc in absurd (omega arith))
      (λ any free left leaf h. let z : ◌≡◌ {A = ℕ} 0 1 = cc in absurd (omega arith))
      (λ any free left more h. let is : next ≡ in_place e 51 12 = cc in (rw is (omega arith), more-levels n e more)))
      levels top both few here

  completion-forks : registers.root_table % 4096 ≡ 0 → Every Asks Says 9 rules
  unfolding translation_fault
  completion-forks aligned =
      every-lookup Asks Says 5 registers fault (type_rules registers request.address)
      request.source.id (refl, omega arith) (λ e table led. (refl, omega (arith, root-aligned registers.haw e led)))
      (λ e reason. stops _ reason false (root-otherwise registers.haw e))
      (λ e reason. stops _ reason (fault_processing_disabled e) (context-otherwise registers e))
      (λ c good.
      type-cases (Every Asks Says 5) registers request.address c
      (every-answer Asks Says 5 (fault 0x0D c.fpd) (stops {A = ℕ} (stop 0x0D) 0x0D c.fpd refl refl))
      (every-answer Asks Says 5 empty empty-says)
      (every_more Asks Says c.levels 5 _ good.1 (walk-forks c.fpd c.levels c.top good.1 (omega (arith, good.2), good.0))))

  -- what is answered, it can answer
  pub reachable : (m : Memory) → registers.root_table % 4096 ≡ 0 → Reachable (run rules m)
  reachable m aligned =
      every-run Asks Reachable (λ kind at c is. faults c is.0) 9 rules m
      (every-weaken Asks Asks Says Reachable (λ kind at c h. h) (λ c h. h.0) 9 rules (completion-forks aligned))
    where
      faults : (c : Completion) → access_fault (translation_outcome request c) ≡ true → Reachable c
      faults (page frame level rights) is = absurd (page-ends frame level rights is)
      faults empty is = tt
      faults (fault reason fpd) is = tt

  pub request-forks : Every Fork Ends 9 (request_rules registers request)
  unfolding request_rules
  request-forks = on (admission registers (in_interrupt_range request.address) registers.te) refl
    where
      on : (k : Admitted) → k ≡ admission registers (in_interrupt_range request.address) registers.te
          → Every Fork Ends 9 (on_admission k refused (passed request.address) (map_rules (translation_outcome request) rules))
      on (refusal n) h = every-answer Fork Ends 9 (refused n) (λ is. let z : ◌≡◌ {A = ℕ} 0 1 = cc in omega arith)
      on pass h = every-answer Fork Ends 9 (passed request.address) (λ is. let z : ◌≡◌ {A = ℕ} 0 1 = cc in omega arith)
      on taken_up taken =
          every_map (translation_outcome request) Fork Ends 9 rules
          (every-weaken Asks Asks Says (λ c. Ends (translation_outcome request c)) (λ kind at c h. h) (λ c h. h.1) 9 rules
          (completion-forks (taken-root registers _ registers.te taken)))
