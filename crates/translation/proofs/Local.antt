-- Demand 3's first claim for translation requests, and what they name.
use Prim.Native.Nat.{ℕ, ◌%◌}
use mathlib.Core.Bool.{Bool, true, false}
use mathlib.Core.List.{[]}
use mathlib.Core.Path.{◌≡◌, refl, ap₂, sym, ◌∙◌, subst}
use native.Mathlib.Omega.{arith}
use Rattle.image.specs.Place.{no_entry, stopped_at}
use Rattle.image.specs.Rules.{Rules, run, named, map_rules}
use Rattle.image.proofs.Forks.{every-outside, every-named, every-entry}
use Rattle.image.proofs.Local.{local}
use Rattle.image.proofs.Places.{local-place, Some, some-fetch, tried-map}
use Rattle.image.proofs.Trees.{Outside, met}
use Rattle.image.proofs.Unfetched.{every-inside, ends-unfetched}
use Rattle.registers.specs.Admission.{Admitted, refusal, pass, taken_up, admission, on_admission, in_interrupt_range}
use Rattle.registers.specs.declared.Registers.{Registers}
use Rattle.dma.specs.Lookup.{root_rules}
use Rattle.translation.specs.Claims.{access_fault, TranslationLocality, TranslationAtMostNine, TranslationNoneUntaken, TranslationReadsWords, TranslationAccessMeansUnfetched, TranslationAlwaysAnEntry}
use Rattle.translation.specs.Completion.{Completion, completion_rules}
use Rattle.translation.specs.Requests.{TranslationOutcome, passed, blocked, refused, translation_outcome, answer_over, concerned, request_rules}
use Rattle.translation.specs.declared.TranslationRequest.{TranslationRequest}
use Rattle.translation.proofs.Forks.{Fork, Ends, request-forks}

outside-request : (registers : Registers) (request : TranslationRequest) → Outside (λ o. access_fault o ≡ true) (request_rules registers request)
outside-request registers request =
    every-outside Fork Ends (λ o. access_fault o ≡ true) (λ kind at o fork. fork.0) 9 (request_rules registers request)
    (request-forks registers request)

pub translation-locality : TranslationLocality
translation-locality registers request m m' answered same =
    let q = request_rules registers request in
    let no : access_fault (answer_over registers request m) ≡ true → ⊥ = λ ended. let z : ◌≡◌ {A = Bool} true false = sym ended ∙ answered in let y : ◌≡◌ {A = ℕ} 0 1 = cc in omega arith in
    let complete = met (λ o. access_fault o ≡ true) q m (outside-request registers request) no in
    let alike = local q m m' complete same in
    (sym alike, sym (ap₂ concerned alike (local-place no_entry q m m' complete same)))

pub translation-at-most-nine : TranslationAtMostNine
translation-at-most-nine registers request m =
    every-named Fork Ends 9 (request_rules registers request) m (request-forks registers request)

pub translation-reads-words : TranslationReadsWords
translation-reads-words registers request m at =
    every-entry Fork Ends (λ kind. true) (λ at. at % 8 ≡ 0) (λ kind at o fork chosen. fork.1) 9 (request_rules registers request) m at
    (request-forks registers request)

pub translation-access-means-unfetched : TranslationAccessMeansUnfetched
translation-access-means-unfetched registers request m =
    ends-unfetched (λ o. access_fault o ≡ true) m (request_rules registers request)
    (every-inside Fork Ends (λ o. access_fault o ≡ true) (λ o ends. ends) 9 (request_rules registers request) (request-forks registers request))

module _ (registers : Registers) (request : TranslationRequest) where
  abbrev rules : Rules Completion
  rules = completion_rules registers request.address request.source.id

  abbrev tree : Admitted → Rules TranslationOutcome
  tree a = on_admission a refused (passed request.address) (map_rules (translation_outcome request) rules)

pub translation-none-untaken : TranslationNoneUntaken
unfolding request_rules named
translation-none-untaken registers request m = on (admission registers (in_interrupt_range request.address) registers.te) refl
  where
    on : (k : Admitted) → k ≡ admission registers (in_interrupt_range request.address) registers.te
        → (taken_up ≡ admission registers (in_interrupt_range request.address) registers.te → ⊥)
        → named (tree registers request k) m ≡ []
    on (refusal n) h not = refl
    on pass h not = refl
    on taken_up h not = absurd (not h)

pub translation-always-an-entry : TranslationAlwaysAnEntry
unfolding request_rules run root_rules
translation-always-an-entry registers request m f ended none = on (admission registers (in_interrupt_range request.address) registers.te) ended none
  where
    on : (a : Admitted) → run (tree registers request a) m ≡ blocked f
        → concerned (run (tree registers request a) m) (stopped_at (tree registers request a) m) ≡ no_entry → ⊥
    on (refusal n) ended none = let z : ◌≡◌ {A = ℕ} 0 1 = cc in omega arith
    on pass ended none = let z : ◌≡◌ {A = ℕ} 0 1 = cc in omega arith
    on taken_up ended none =
        let there : stopped_at (tree registers request taken_up) m ≡ no_entry = rw ended at none in
        subst Some (sym (tried-map (translation_outcome request) no_entry (rules registers request) m) ∙ there)
        (some-fetch _ _ _ _ m)
