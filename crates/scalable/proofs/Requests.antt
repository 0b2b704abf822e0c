-- What every fork of a request's rules in scalable mode satisfies: the one traversal of its tree.
use Prim.Native.Nat.{◌+◌, ◌*◌, ◌≤◌}
use mathlib.Core.Bool.{Bool, true, false}
use mathlib.Core.List.{[]}
use mathlib.Core.Path.{◌≡◌, refl}
use native.Mathlib.Omega.{arith}
use borrow.Author.Tests.{eqb-true, eqb-false}
use lib.Dec.{eqb}
use Rattle.std.specs.Prelude.{if◌then◌else◌}
use Rattle.image.specs.Rules.{answer}
use Rattle.image.proofs.Forks.{every-weaken}
use Rattle.registers.specs.Admission.{Admitted, refusal, pass, taken_up, admission, on_admission, in_interrupt_range}
use Rattle.registers.proofs.Good.{taken-good}
use Rattle.dma.specs.Requests.{granted, refused}
use Rattle.dma.specs.Translation.{overflows}
use Rattle.pasid.specs.Record.{scalable_fault}
use Rattle.pasid.specs.declared.ScalableRegisters.{ScalableRegisters}
use Rattle.pasid.specs.declared.table.PasidEntry.{PasidEntry}
use Rattle.first.specs.First.{not_canonical, unfetchable_reason}
use Rattle.second.specs.Second.{at_top, no_second_entry, second_step}
use Rattle.nested.specs.Pages.{Pages, fault, wanted_of_page, to_page, pages_rules, SecondWalkable, FirstWalkable, PagesWalkable}
use Rattle.nested.proofs.Forks.{Forks, forks-answer, forks-more, forks-if, forks-map, forks-then, forks-walk, forks-pages}
use Rattle.scalable.specs.Isolation.{access_fault}
use Rattle.scalable.specs.Lookup.{Lookup, pasid_entry, no_pasid_entry, lookup_rules}
use Rattle.scalable.specs.Requests.{Translation, through, translated, pasid_too_wide, without_entry, second_pages, paged_rules, type_rules, looked_up, translation_rules, Decision, say_only, decision, taken_rules, scalable_rules, Walkable}
use Rattle.scalable.specs.declared.ScalableRequest.{ScalableRequest}
use Rattle.scalable.proofs.Forks.{Absent, FoundSo, when-absent, lookup-forks}
use Rattle.scalable.proofs.Found.{walkable}

-- an entry that can't be fetched is answered with an access fault
abbrev pub AccessFault : Decision → Type 0
AccessFault d = access_fault d.outcome ≡ true

module _ (r : ScalableRegisters) (q : ScalableRequest) where
  abbrev Asks : Translation → Type 0
  Asks t = AccessFault (decision q t)

  abbrev AsksPage : Pages → Type 0
  AsksPage w = Asks (translated w)

  no_second : (fpd top : Bool) → AsksPage (fault (if top then 0x7B else 0x78) fpd)
  unfolding scalable_fault
  no_second fpd true = refl
  no_second fpd false = refl

  no-first : (fpd top : Bool) → AsksPage (fault (unfetchable_reason top) fpd)
  unfolding scalable_fault
  no-first fpd true = refl
  no-first fpd false = refl

  second-forks : (p : PasidEntry) → SecondWalkable p → Forks AsksPage 35 (second_pages r q.address q.write p)
  unfolding second_pages
  second-forks p good =
      let few = good.1 in
      forks-if AsksPage 35 (overflows r.base p.second_levels q.address) (answer (fault 0x84 p.fpd)) _ (λ over. forks-answer AsksPage 35 _)
      (λ within.
      forks-map AsksPage (to_page q.address) 35 _
      (forks-more _ p.second_levels 35 _ (omega arith)
      (forks-walk (λ w. AsksPage (to_page q.address w)) q.address (no_second_entry r p (wanted_of_page q.write)) (second_step r p (wanted_of_page q.write))
      (λ above. no_second p.fpd above.top) p.second_levels p.second_top (at_top []))))

  -- five levels of the first level, each with five of the second, and five for the page
  first-forks : (p : PasidEntry) → FirstWalkable p → Forks AsksPage 35 (pages_rules r p q.address q.write)
  first-forks p good =
      let few = good.1 in
      forks-more AsksPage (p.first_levels * 6 + 5) 35 _ (omega arith)
      (forks-pages r p 5 (λ three. (good.4 three).1) AsksPage (no-first p.fpd) (no_second p.fpd) q.address q.write)

  paged-forks : (p : PasidEntry) → PagesWalkable p → Forks AsksPage 35 (paged_rules r q.address q.write p)
  unfolding paged_rules
  paged-forks p good =
      forks-if AsksPage 35 (eqb p.kind 2) (second_pages r q.address q.write p) _ (λ two. second-forks p (good.0 (eqb-true p.kind 2 two)))
      (λ other.
      forks-if AsksPage 35 (not_canonical p.first_levels q.address) (answer (fault 0x80 p.fpd)) _ (λ beyond. forks-answer AsksPage 35 _)
      (λ canonical. first-forks p (good.1 (eqb-false p.kind 2 other))))

  type-forks : (p : PasidEntry) → Walkable p → Forks Asks 35 (type_rules r q.address q.write p)
  unfolding type_rules
  type-forks p good =
      forks-if Asks 35 (eqb p.kind 4) (answer through) _ (λ four. forks-answer Asks 35 _)
      (λ other. forks-map Asks translated 35 _ (paged-forks p (good (eqb-false p.kind 4 other))))

  looked-forks : (l : Lookup) → FoundSo Walkable l → Forks Asks 35 (looked_up r q.address q.write l)
  looked-forks (pasid_entry p) good = type-forks p good
  looked-forks (no_pasid_entry reason fpd) good = forks-answer Asks 35 _

  translation-forks : r.base.haw ≤ 52 → Forks Asks 50 (translation_rules r q.address q.write q.pasid q.source.id)
  unfolding scalable_fault
  translation-forks low =
      forks-then Asks without_entry (looked_up r q.address q.write) (FoundSo Walkable) 15 35 (lookup_rules r q.pasid q.source.id)
      (every-weaken Absent (λ kind at l. Asks (without_entry l)) (FoundSo Walkable) (FoundSo Walkable)
      (when-absent (λ l. Asks (without_entry l)) (λ reason fpd h. h)) (λ l h. h) 15 (lookup_rules r q.pasid q.source.id)
      (lookup-forks r Walkable (λ privileged fpd e p. walkable r low privileged fpd e) q.pasid q.source.id))
      looked-forks

  pub request-forks : Forks AccessFault 50 (scalable_rules r q)
  unfolding scalable_rules
  request-forks = by (admission r.base (in_interrupt_range q.address) r.base.te) refl
    where
      by : (a : Admitted) → a ≡ admission r.base (in_interrupt_range q.address) r.base.te
          → Forks AccessFault 50
          (on_admission a (λ number. say_only (refused number)) (say_only (if pasid_too_wide q.pasid then refused 6 else granted q.address)) (taken_rules r q))
      by (refusal n) told = forks-answer AccessFault 50 _
      by pass told = forks-answer AccessFault 50 _
      by taken_up told =
          forks-if AccessFault 50 (pasid_too_wide q.pasid) (answer (say_only (refused 6))) _ (λ wide. forks-answer AccessFault 50 _)
          (λ narrow. forks-map AccessFault (decision q) 50 _ (translation-forks (taken-good r.base _ _ told).haw.most))
