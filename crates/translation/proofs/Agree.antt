-- Both engines agree on a page that a translation request is answered.
use Prim.Native.Nat.{ℕ, ◌+◌, ◌/◌, ◌%◌, ◌≤◌}
use mathlib.Core.Bool.{Bool, true, false, ◌||◌}
use mathlib.Core.Logic.{⊎_elim}
use mathlib.Core.Path.{◌≡◌, refl, ap, sym, ◌∙◌, subst}
use native.Mathlib.Omega.{arith}
use lib.Dec.{eqb}
use Rattle.std.specs.Prelude.{if◌then◌else◌}
use Rattle.image.specs.Memory.{Memory}
use Rattle.image.specs.Rules.{Rules, answer, run, map_rules}
use Rattle.image.proofs.Trees.{run-map}
use Rattle.registers.specs.Admission.{Admitted, refusal, pass, taken_up, admission, on_admission, in_interrupt_range}
use Rattle.registers.specs.Registers.{registers_bad}
use Rattle.registers.specs.declared.Registers.{Registers}
use Rattle.registers.proofs.Good.{taken-good}
use Rattle.dma.specs.InterruptRange.{meets_interrupt_range, span_at}
use Rattle.dma.specs.Lookup.{Lookup, context, no_context, on_lookup, lookup_rules}
use Rattle.dma.specs.Page.{denied}
use Rattle.dma.specs.Requests as memory
use Rattle.dma.specs.Translation as plain
use Rattle.dma.specs.declared.MemoryRequest.{MemoryRequest}
use Rattle.dma.specs.declared.context.Context.{Context}
use Rattle.dma.proofs.Admissions.{takes}
use Rattle.dma.proofs.Lookups.{looked-up}
use Rattle.dma.proofs.Steps.{offset-of}
use Rattle.translation.specs.Claims.{InPage, Agrees, EnginesAgree}
use Rattle.translation.specs.Completion.{Completion, page, empty, fault, joined_rules, type_rules, completion_rules}
use Rattle.translation.specs.Requests.{passed, translated, refused, translation_outcome, request_rules}
use Rattle.translation.specs.Rights.{both, neither, right_of}
use Rattle.translation.specs.declared.Rights.{Rights}
use Rattle.translation.specs.declared.TranslationRequest.{TranslationRequest}
use Rattle.translation.proofs.Pages.{same_width}
use Rattle.translation.proofs.Walks.{Within, Near, told, within, walks-alike}

pub both_right : (write : Bool) → right_of write both ≡ true
both_right true = refl
both_right false = refl

-- what an untranslated request's translation is, as a completion says: the page, or a fault
abbrev Says : (write : Bool) → Completion → plain.Translation → Type 0
Says write (page frame level rights) plain.through = ⊥
Says write (page frame level rights) (plain.leaf f l) = (right_of write rights ≡ true) × (f ≡ frame) × (l ≡ level)
Says write (page frame level rights) (plain.fault reason fpd) = right_of write rights ≡ false
Says write empty plain.through = ⊥
Says write empty (plain.leaf f l) = ⊥
Says write empty (plain.fault reason fpd) = Unit {0}
Says write (fault reason fpd) t = Unit {0}

module _ (registers : Registers) (own address : ℕ) (write : Bool) (m : Memory) where
  told-says : (fpd : Bool) (c : Completion) → Says write c (told write fpd c)
  told-says fpd (page frame level rights) = by (right_of write rights) refl
    where
      by : (right : Bool) → right_of write rights ≡ right
          → Says write (page frame level rights) (if right then plain.leaf frame level else plain.fault (denied write) fpd)
      by true is = (is, refl, refl)
      by false is = is
  told-says fpd empty = tt
  told-says fpd (fault reason f) = tt

  module _ (c : Context) (wide : 39 ≤ registers.mgaw) where
    abbrev completed : Completion
    completed = run (type_rules registers own c) m

    abbrev translation : plain.Translation
    translation = run (plain.width_rules registers address write c) m

    -- an address for which a completion of a walk speaks fits in X bits too
    fits : (k : Completion) → Within c.levels k → Near own address k → plain.overflows registers c.levels own ≡ false
        → plain.overflows registers c.levels address ≡ false
    fits (page frame level rights) is near below =
        same_width registers c own address level wide is.0 is.2 is.1 near below
    fits empty is near below = rw near at below
    fits (fault reason fpd) is near below = absurd near

    in-context : Near own address completed → Says write completed translation
    unfolding type_rules plain.width_rules run
    in-context = by-type (eqb c.translation_type 0) (eqb c.translation_type 2) refl
      where
        walked : eqb c.translation_type 2 ≡ false → plain.overflows registers c.levels own ≡ false
            → Near own address (run (joined_rules registers own c.fpd c.levels c.top both) m)
            → Says write (run (joined_rules registers own c.fpd c.levels c.top both) m) translation
        walked type below near =
            let k = run (joined_rules registers own c.fpd c.levels c.top both) m in
            let level = fits k (within registers own c.fpd m c.levels c.top both) near below in
            let same = walks-alike registers own c.fpd m address write c.levels c.top both (both_right write) near in
            rw (level, type, same) (told-says c.fpd k)

        by_width : (over : Bool) → plain.overflows registers c.levels own ≡ over → eqb c.translation_type 2 ≡ false
            → Near own address (run (if over then answer empty else joined_rules registers own c.fpd c.levels c.top both) m)
            → Says write (run (if over then answer empty else joined_rules registers own c.fpd c.levels c.top both) m) translation
        by_width true is type near = rw (rw near at is) tt
        by_width false is type near = walked type is near

        by-type : (zero two : Bool) → eqb c.translation_type 2 ≡ two
            → Near own address
            (run
            (if zero || two then answer (fault 0x0D c.fpd)
            else if plain.overflows registers c.levels own then answer empty
            else joined_rules registers own c.fpd c.levels c.top both)
            m)
            → Says write
            (run
            (if zero || two then answer (fault 0x0D c.fpd)
            else if plain.overflows registers c.levels own then answer empty
            else joined_rules registers own c.fpd c.levels c.top both)
            m)
            translation
        by-type true two is near = tt
        by-type false true is near = tt
        by-type false false is near = by_width (plain.overflows registers c.levels own) refl is near

-- past the registers and the switch, an address outside the interrupt range is taken up
still-taken : (registers : Registers) (wrong on : Bool) → taken_up ≡ admission registers wrong on → taken_up ≡ admission registers false on
unfolding admission
still-taken registers wrong on = by (registers_bad registers) wrong
  where
    by : (bad wrong : Bool)
        → taken_up ≡ (if bad then refusal 1 else if wrong then refusal 2 else if on then taken_up else pass)
        → taken_up ≡ (if bad then refusal 1 else if false then refusal 2 else if on then taken_up else pass)
    by true wrong h = h
    by false true h = let z : ◌≡◌ {A = ℕ} 0 1 = cc in absurd (omega arith)
    by false false h = h

module _ (registers : Registers) (request : TranslationRequest) (m : Memory) (frame size : ℕ) (rights : Rights) (address : ℕ) (write : Bool)
    (in-page : InPage size request.address address) where
  abbrev other : MemoryRequest
  other = record { source = request.source; address = address; write = write }

  -- what becomes of the untranslated request
  abbrev Fate : memory.MemoryOutcome → Type 0
  Fate o =
      (right_of write rights ≡ true → o ≡ memory.granted (frame + address % size))
      × (right_of write rights ≡ false → (host : ℕ) → o ≡ memory.granted host → ⊥)

  clash : right_of write rights ≡ true → right_of write rights ≡ false → ⊥
  clash on off = let z : ◌≡◌ {A = Bool} true false = sym on ∙ off in let y : ◌≡◌ {A = ℕ} 0 1 = cc in omega arith

  -- a fault is no grant
  denied-fate : right_of write rights ≡ false → (reason : ℕ) (fpd : Bool) → Fate (memory.memory_outcome other (plain.fault reason fpd))
  denied-fate off reason fpd = (λ on. absurd (clash on off), λ _ host is. let z : ◌≡◌ {A = ℕ} 0 1 = cc in omega arith)

  page-fate : (level : ℕ) → meets_interrupt_range frame (span_at level) ≡ false → span_at level ≡ size → (t : plain.Translation)
      → Says write (page frame level rights) t → Fate (memory.memory_outcome other t)
  page-fate level clear span plain.through says = absurd says
  page-fate level clear span (plain.leaf f l) says =
      rw (says.1, says.2, clear)
      ((λ on. ap (λ (x : ℕ). memory.granted (frame + x)) (sym (offset-of address level) ∙ rw span), λ off. absurd (clash says.0 off)))
  page-fate level clear span (plain.fault reason fpd) says = denied-fate says reason fpd

  empty-fate : rights ≡ neither → (t : plain.Translation) → Says write empty t → Fate (memory.memory_outcome other t)
  empty-fate none plain.through says = absurd says
  empty-fate none (plain.leaf f l) says = absurd says
  empty-fate none (plain.fault reason fpd) says = denied-fate (rw none (off write)) reason fpd
    where
      off : (write : Bool) → right_of write neither ≡ false
      off true = refl
      off false = refl

  fate : (k : Completion) (t : plain.Translation) → translation_outcome request k ≡ translated frame size rights
      → (Near request.address address k → Says write k t) → Fate (memory.memory_outcome other t)
  fate (page f level r) t e says = by (meets_interrupt_range f (span_at level)) refl e says
    where
      by : (meets : Bool) → meets_interrupt_range f (span_at level) ≡ meets
          → (if meets then refused 4 else translated f (span_at level) r) ≡ translated frame size rights
          → (Near request.address address (page f level r) → Says write (page f level r) t) → Fate (memory.memory_outcome other t)
      by true is e says = let z : ◌≡◌ {A = ℕ} 0 1 = cc in absurd (omega arith)
      by false is e says =
          let same-frame : f ≡ frame = cc in
          let same_size : span_at level ≡ size = cc in
          let same-rights : r ≡ rights = cc in
          let near : request.address / span_at level ≡ address / span_at level =
          ⊎_elim (λ same. ap (λ (a : ℕ). a / span_at level) (sym same)) (λ p. rw same_size (sym p.1)) in-page in
          page-fate level (rw same-frame at is) same_size t (subst (λ (x : ℕ). Says write (page x level rights) t) same-frame (rw same-rights at says near))
  fate empty t e says =
      let none : 0 ≡ size = cc in
      let no-rights : rights ≡ neither = cc in
      empty-fate no-rights t (says (⊎_elim (λ same. sym same) (λ p. absurd (omega (arith, p.0))) in-page))
  fate (fault reason fpd) t e says = let z : ◌≡◌ {A = ℕ} 0 1 = cc in absurd (omega arith)

  looked-up-fate : 39 ≤ registers.mgaw → (l : Lookup)
      → translation_outcome request (on_lookup l fault (λ c. run (type_rules registers request.address c) m)) ≡ translated frame size rights
      → Fate (memory.memory_outcome other (on_lookup l plain.fault (λ c. run (plain.width_rules registers address write c) m)))
  looked-up-fate wide (context c) e =
      fate (run (type_rules registers request.address c) m) (run (plain.width_rules registers address write c) m) e
      (in-context registers request.address address write m c wide)
  looked-up-fate wide (no_context reason fpd) e = let z : ◌≡◌ {A = ℕ} 0 1 = cc in absurd (omega arith)

  agrees : in_interrupt_range address ≡ false → taken_up ≡ admission registers (in_interrupt_range request.address) registers.te
      → translation_outcome request (run (completion_rules registers request.address request.source.id) m) ≡ translated frame size rights
      → Agrees registers request m frame size rights address write
  agrees outside taken e =
      let source = request.source.id in
      let looked = looked-up registers fault (type_rules registers request.address) m source in
      let plain-looked = looked-up registers plain.fault (plain.width_rules registers address write) m source in
      let found = looked-up-fate (taken-good registers _ _ taken).mgaw.least (run (lookup_rules registers source) m) (rw looked at e) in
      let met : Fate (memory.memory_outcome other (run (plain.translation_rules registers address write source) m)) = rw plain-looked found in
      let memory-is = takes registers other m (sym outside) (still-taken registers (in_interrupt_range request.address) registers.te taken) in
      record { with-right = λ on. sym memory-is ∙ met.0 on; without = λ off host is. met.1 off host (memory-is ∙ is) }

pub engines-agree : EnginesAgree
unfolding request_rules run
engines-agree registers request m frame size rights answered address write in-page outside =
    on (admission registers (in_interrupt_range request.address) registers.te) refl answered
  where
    rules : Rules Completion
    rules = completion_rules registers request.address request.source.id

    on : (k : Admitted) → k ≡ admission registers (in_interrupt_range request.address) registers.te
        → run (on_admission k refused (passed request.address) (map_rules (translation_outcome request) rules)) m ≡ translated frame size rights
        → Agrees registers request m frame size rights address write
    on (refusal n) h e = let z : ◌≡◌ {A = ℕ} 0 1 = cc in absurd (omega arith)
    on pass h e = let z : ◌≡◌ {A = ℕ} 0 1 = cc in absurd (omega arith)
    on taken_up h e =
        agrees registers request m frame size rights address write in-page outside h (sym (run-map (translation_outcome request) rules m) ∙ e)
