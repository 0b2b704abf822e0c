-- Only contexts of type 1 translate for a device.
use Prim.Native.Nat.{ℕ, ◌+◌, ◌*◌, ◌<◌}
use mathlib.Core.Bool.{Bool, true, false, not, ◌||◌}
use mathlib.Core.Path.{◌≡◌, refl, sym, ◌∙◌}
use native.Mathlib.Omega.{arith}
use borrow.Author.Tests.{eqb-false}
use lib.Dec.{eqb}
use Rattle.image.specs.Check.{Check, stop, go, on_check}
use Rattle.std.specs.Prelude.{if◌then◌else◌}
use Rattle.image.specs.Memory.{Memory, Fetched, missing, found, entry, on_fetch}
use Rattle.image.specs.Rules.{Rules, answer, run, map_rules}
use Rattle.image.proofs.Choices.{neither}
use Rattle.image.proofs.Fields.{fits}
use Rattle.image.proofs.Trees.{run-map}
use Rattle.registers.specs.Admission.{Admitted, refusal, pass, taken_up, admission, on_admission, in_interrupt_range}
use Rattle.registers.specs.Source.{bus_of, devfn_of}
use Rattle.registers.specs.declared.Registers.{Registers}
use Rattle.dma.specs.Context.{context_check, context_invalid, context_of, fault_processing_disabled, translation_type, width_supported, address_width}
use Rattle.dma.specs.Lookup.{Lookup, context, no_context, on_lookup, context_rules, root_rules, lookup_rules}
use Rattle.dma.specs.Root.{root_check}
use Rattle.dma.specs.Translation.{overflows}
use Rattle.dma.specs.declared.context.Context.{Context}
use Rattle.dma.proofs.Lookups.{looked-up}
use Rattle.dma.proofs.Stages.{valid}
use Rattle.translation.specs.Claims.{OfType1, OnlyType1}
use Rattle.translation.specs.Completion.{Completion, empty, fault, joined_rules, type_rules, completion_rules}
use Rattle.translation.specs.Requests.{passed, translated, refused, translation_outcome, request_rules}
use Rattle.translation.specs.Rights.{both}
use Rattle.translation.specs.declared.Rights.{Rights}
use Rattle.translation.specs.declared.TranslationRequest.{TranslationRequest}

-- a context that is found has type 0, 1 or 2
abbrev BelowThree : Lookup → Type 0
BelowThree (context c) = c.translation_type < 3
BelowThree (no_context reason fpd) = Unit {0}

checked : (registers : Registers) (e : ℕ) {c : Context} → context_check registers e ≡ go c → c.translation_type < 3
unfolding context_invalid
checked registers e {c} h =
    let passed = valid registers e h in
    let says = passed.1 in
    let is : c ≡ context_of e = cc in
    let below = fits e 3 2 in
    let not_three = eqb-false (translation_type e) 3 (neither (not (width_supported registers (address_width e))) _ passed.0).1 in
    rw is (omega arith)

below-three : (registers : Registers) (source : ℕ) (m : Memory) → BelowThree (run (lookup_rules registers source) m)
unfolding root_rules context_rules run
below-three registers source m = at-root (entry 2 m (registers.root_table + 16 * bus_of source))
  where
    told : (e : ℕ) (k : Check Context) → context_check registers e ≡ k
        → BelowThree (run (on_check k (λ reason. answer (no_context reason (fault_processing_disabled e))) (λ c. answer (context c))) m)
    told e (stop reason) is = tt
    told e (go c) is = checked registers e is

    at-context : (f : Fetched)
        → BelowThree
        (on_fetch f (no_context 0x09 false)
        (λ e. run (on_check (context_check registers e) (λ reason. answer (no_context reason (fault_processing_disabled e))) (λ c. answer (context c))) m))
    at-context missing = tt
    at-context (found e) = told e (context_check registers e) refl

    at_table_lem : (k : Check ℕ)
        → BelowThree
        (run (on_check k (λ reason. answer (no_context reason false)) (context_rules registers no_context (λ c. answer (context c)) source)) m)
    at_table_lem (stop reason) = tt
    at_table_lem (go table) = at-context (entry 2 m (table + 16 * devfn_of source))

    at-root : (f : Fetched)
        → BelowThree
        (on_fetch f (no_context 0x08 false)
        (λ e.
        run
        (on_check (root_check registers.haw e) (λ reason. answer (no_context reason false))
        (context_rules registers no_context (λ c. answer (context c)) source)) m))
    at-root missing = tt
    at-root (found e) = at_table_lem (root_check registers.haw e)

module _ (registers : Registers) (request : TranslationRequest) (m : Memory) (frame size : ℕ) (rights : Rights) where
  -- types 0 and 2 are blocked
  in-context : (c : Context) → c.translation_type < 3
      → translation_outcome request (run (type_rules registers request.address c) m) ≡ translated frame size rights
      → c.translation_type ≡ 1
  unfolding type_rules run
  in-context c low = by (eqb c.translation_type 0) (eqb c.translation_type 2) refl refl
    where
      rest : Rules Completion
      rest =
          if overflows registers c.levels request.address then answer empty
          else joined_rules registers request.address c.fpd c.levels c.top both

      by : (zero two : Bool) → eqb c.translation_type 0 ≡ zero → eqb c.translation_type 2 ≡ two
          → translation_outcome request (run (if zero || two then answer (fault 0x0D c.fpd) else rest) m) ≡ translated frame size rights
          → c.translation_type ≡ 1
      by true two is_zero is-two e = let z : ◌≡◌ {A = ℕ} 0 1 = cc in absurd (omega arith)
      by false true is_zero is-two e = let z : ◌≡◌ {A = ℕ} 0 1 = cc in absurd (omega arith)
      by false false is_zero is-two e =
          let not-zero = eqb-false c.translation_type 0 is_zero in
          let not-two = eqb-false c.translation_type 2 is-two in
          omega arith

  by-lookup : (l : Lookup) → run (lookup_rules registers request.source.id) m ≡ l → BelowThree l
      → translation_outcome request (on_lookup l fault (λ c. run (type_rules registers request.address c) m)) ≡ translated frame size rights
      → OfType1 registers request m
  by-lookup (context c) is low e = record { own = c; own-context = is; type = in-context c low e }
  by-lookup (no_context reason fpd) is low e = let z : ◌≡◌ {A = ℕ} 0 1 = cc in absurd (omega arith)

pub only-type-1 : OnlyType1
unfolding request_rules run
only-type-1 registers request m frame size rights answered =
    on (admission registers (in_interrupt_range request.address) registers.te) answered
  where
    rules : Rules Completion
    rules = completion_rules registers request.address request.source.id

    on : (k : Admitted)
        → run (on_admission k refused (passed request.address) (map_rules (translation_outcome request) rules)) m ≡ translated frame size rights
        → OfType1 registers request m
    on (refusal n) e = let z : ◌≡◌ {A = ℕ} 0 1 = cc in absurd (omega arith)
    on pass e = let z : ◌≡◌ {A = ℕ} 0 1 = cc in absurd (omega arith)
    on taken_up e =
        by-lookup registers request m frame size rights (run (lookup_rules registers request.source.id) m) refl
        (below-three registers request.source.id m)
        (rw (looked-up registers fault (type_rules registers request.address) m request.source.id) at
        (sym (run-map (translation_outcome request) rules m) ∙ e))
