-- A whole request in scalable mode keeps its decision, where it is a grant, over memories with the same tables and rights switched on.
use Prim.Native.Nat.{ℕ, ◌%◌, ◌≤◌}
use mathlib.Core.Bool.{Bool, true, false}
use mathlib.Core.List.{[]}
use mathlib.Core.Path.{◌≡◌, refl, ap}
use native.Mathlib.Omega.{arith}
use lib.Dec.{eqb}
use Rattle.std.specs.Prelude.{if◌then◌else◌}
use Rattle.image.specs.Rules.{Rules, answer, map_rules}
use Rattle.registers.specs.Admission.{Admitted, refusal, pass, taken_up, admission, on_admission, in_interrupt_range}
use Rattle.faults.specs.Record.{FaultAnswer}
use Rattle.dma.specs.Requests.{granted, blocked, refused}
use Rattle.dma.specs.Translation.{overflows}
use Rattle.registers.proofs.Good.{taken-good}
use Rattle.dma.proofs.Raised.{Raised}
use Rattle.pasid.specs.declared.ScalableRegisters.{ScalableRegisters}
use Rattle.pasid.specs.declared.table.PasidEntry.{PasidEntry}
use Rattle.first.specs.First.{not_canonical}
use Rattle.second.specs.Second.{second_rules, at_top}
use Rattle.nested.specs.Pages.{Pages, reached, fault, wanted_of_page, to_page, pages_rules}
use Rattle.scalable.specs.Lookup.{Lookup, pasid_entry, no_pasid_entry}
use Rattle.scalable.specs.Requests.{Translation, through, translated, without_entry, second_pages, paged_rules, type_rules, looked_up, translation_rules, Decision, say_only, decision, pasid_too_wide, taken_rules, scalable_rules}
use Rattle.scalable.specs.declared.ScalableRequest.{ScalableRequest}
use Rattle.rights.proofs.Kept.{Keeps, keeps-answer, keeps-map, keeps_then}
use Rattle.rights.proofs.Lookup.{LookupKept, LookupDead, lookup-kept}
use Rattle.rights.proofs.Nested.{PagesKept, PagesDead, to-page, page-lost, pages-kept}
use Rattle.rights.proofs.Second.{WalkedKept, WalkedDead, second-kept}

abbrev TranslationKept : Translation → Translation → Type 0
TranslationKept through b = b ≡ through
TranslationKept (translated (reached frame level host flags)) b = b ≡ translated (reached frame level host flags)
TranslationKept (translated (fault reason fpd)) b = Unit {0}

abbrev TranslationDead : Translation → Type 0
TranslationDead through = ⊥
TranslationDead (translated (reached frame level host flags)) = ⊥
TranslationDead (translated (fault reason fpd)) = Unit {0}

-- a grant is kept with all that belongs to it
abbrev pub DecisionKept : Decision → Decision → Type 0
DecisionKept a b = (address : ℕ) → a.outcome ≡ granted address → b ≡ a

abbrev pub DecisionDead : Decision → Type 0
DecisionDead a = (address : ℕ) → a.outcome ≡ granted address → ⊥

pub decision-all : (a b : Decision) → DecisionDead a → DecisionKept a b
decision-all a b dead address h = absurd (dead address h)

paged : (a b : Pages) → PagesKept a b → TranslationKept (translated a) (translated b)
paged (reached frame level host flags) b h = ap translated h
paged (fault reason fpd) b h = tt

unpaged : (a : Pages) → PagesDead a → TranslationDead (translated a)
unpaged (reached frame level host flags) dead = absurd dead
unpaged (fault reason fpd) dead = tt

module _ (r : ScalableRegisters) (haw : 2 ≤ r.base.haw) (address : ℕ) (write : Bool) where
  module _ (p : PasidEntry) (second-top : p.second_top % 8 ≡ 0) (first-top : p.first_top % 8 ≡ 0) where
    second-pages : Keeps Raised PagesKept PagesDead (second_pages r address write p) (second_pages r address write p)
    unfolding second_pages
    second-pages = by (overflows r.base p.second_levels address)
      where
        walk : Rules Pages
        walk = map_rules (to_page address) (second_rules r p (wanted_of_page write) address p.second_levels p.second_top (at_top []))

        by : (over : Bool)
            → Keeps Raised PagesKept PagesDead (if over then answer (fault 0x84 p.fpd) else walk) (if over then answer (fault 0x84 p.fpd) else walk)
        by true = keeps-answer Raised PagesKept PagesDead _ _ tt
        by false =
            keeps-map Raised WalkedKept WalkedDead PagesKept PagesDead (to_page address) (to_page address) (to-page address) (page-lost address) _ _
            (second-kept r haw p (wanted_of_page write) address p.second_levels p.second_top [] [] second-top refl)

    paged-kept : Keeps Raised PagesKept PagesDead (paged_rules r address write p) (paged_rules r address write p)
    unfolding paged_rules
    paged-kept = by (eqb p.kind 2) (not_canonical p.first_levels address)
      where
        rules : (second bad : Bool) → Rules Pages
        rules second bad =
            if second then second_pages r address write p else if bad then answer (fault 0x80 p.fpd) else pages_rules r p address write

        by : (second bad : Bool) → Keeps Raised PagesKept PagesDead (rules second bad) (rules second bad)
        by true bad = second-pages
        by false true = keeps-answer Raised PagesKept PagesDead _ _ tt
        by false false = pages-kept r haw p second-top address write first-top

    type-kept : Keeps Raised TranslationKept TranslationDead (type_rules r address write p) (type_rules r address write p)
    unfolding type_rules
    type-kept = by (eqb p.kind 4)
      where
        rules : (passes : Bool) → Rules Translation
        rules passes = if passes then answer through else map_rules translated (paged_rules r address write p)

        by : (passes : Bool) → Keeps Raised TranslationKept TranslationDead (rules passes) (rules passes)
        by true = keeps-answer Raised TranslationKept TranslationDead _ _ refl
        by false = keeps-map Raised PagesKept PagesDead TranslationKept TranslationDead translated translated paged unpaged _ _ paged-kept

  after : (a b : Lookup) → LookupKept a b → Keeps Raised TranslationKept TranslationDead (looked_up r address write a) (looked_up r address write b)
  after (pasid_entry p) b h = rw h.0 (type-kept p h.1 h.2)
  after (no_pasid_entry reason fpd) b h = rw h (keeps-answer Raised TranslationKept TranslationDead _ _ tt)

  ended : (a b : Lookup) → LookupKept a b → TranslationKept (without_entry a) (without_entry b)
  ended (pasid_entry p) b h = tt
  ended (no_pasid_entry reason fpd) b h = tt

-- a fault is no grant
none : {A : Type 0} {f : FaultAnswer} {address : ℕ} → blocked f ≡ granted address → A
none h = let z : ◌≡◌ {A = ℕ} 0 1 = cc in absurd (omega arith)

module _ (r : ScalableRegisters) (q : ScalableRequest) where
  told : (a b : Translation) → TranslationKept a b → DecisionKept (decision q a) (decision q b)
  told through b h = rw h (λ address is. refl)
  told (translated (reached frame level host flags)) b h = rw h (λ address is. refl)
  told (translated (fault reason fpd)) b h = λ address is. none is

  untold : (a : Translation) → TranslationDead a → DecisionDead (decision q a)
  untold through dead = absurd dead
  untold (translated (reached frame level host flags)) dead = absurd dead
  untold (translated (fault reason fpd)) dead = λ address is. none is

  abbrev Same : Rules Decision → Type 0
  Same x = Keeps Raised DecisionKept DecisionDead x x

  said : (d : Decision) → Same (answer d)
  said d = keeps-answer Raised DecisionKept DecisionDead d d (λ address is. refl)

  taken-kept : taken_up ≡ admission r.base (in_interrupt_range q.address) r.base.te → Same (taken_rules r q)
  taken-kept taken = by (pasid_too_wide q.pasid)
    where
      haw : 2 ≤ r.base.haw
      haw = omega (arith, (taken-good r.base _ r.base.te taken).haw.least)

      low : r.base.haw ≤ 52
      low = (taken-good r.base _ r.base.te taken).haw.most

      root : r.base.root_table % 8 ≡ 0
      root = omega (arith, (taken-good r.base _ r.base.te taken).root.aligned)

      rules : Rules Decision
      rules = map_rules (decision q) (translation_rules r q.address q.write q.pasid q.source.id)

      by : (wide : Bool) → Same (if wide then answer (say_only (refused 6)) else rules)
      by true = said _
      by false =
          keeps-map Raised TranslationKept TranslationDead DecisionKept DecisionDead (decision q) (decision q) told untold _ _
          (keeps_then Raised LookupKept LookupDead TranslationKept TranslationDead without_entry without_entry (looked_up r q.address q.write)
          (looked_up r q.address q.write) (ended r haw q.address q.write) (after r haw q.address q.write) (λ a dead. absurd dead) _ _
          (lookup-kept r low q.pasid q.source.id root))

  pub request-kept : Keeps Raised DecisionKept DecisionDead (scalable_rules r q) (scalable_rules r q)
  unfolding scalable_rules
  request-kept = by (admission r.base (in_interrupt_range q.address) r.base.te) refl
    where
      by : (k : Admitted) → k ≡ admission r.base (in_interrupt_range q.address) r.base.te
          → Same
          (on_admission k (λ number. say_only (refused number)) (say_only (if pasid_too_wide q.pasid then refused 6 else granted q.address)) (taken_rules r q))
      by (refusal n) h = said _
      by pass h = said _
      by taken_up h = taken-kept h
