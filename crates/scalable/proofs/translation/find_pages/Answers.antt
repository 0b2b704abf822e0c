use Prim.Native.Nat.{ℕ}
use mathlib.Core.Bool.{Bool, false}
use mathlib.Core.List.{[]}
use mathlib.Core.Path.{◌≡◌, ap, sym, ◌∙◌, subst}
use borrow.Author.Tests.{eq-eqb, ne_eqb}
use Rattle.image.specs.Answers.{memory_of}
use Rattle.image.specs.Place.{entry_at, last_tried}
use Rattle.image.specs.Rules.{run, map_rules}
use Rattle.dma.specs.Translation.{overflows}
use Rattle.pasid.specs.declared.ScalableRegisters.{ScalableRegisters}
use Rattle.pasid.specs.declared.table.PasidEntry.{PasidEntry}
use Rattle.first.specs.First.{not_canonical}
use Rattle.nested.specs.Answers.{PagesNames}
use Rattle.nested.specs.Pages.{wanted_of_page, to_page}
use Rattle.nested.specs.Positions.{kind_rules}
use Rattle.nested.proofs.Nested.{within}
use Rattle.scalable.specs.Requests.{second_pages, paged_rules}
use Rattle.scalable.proofs.translation.find_pages.Goals.{then-entry-eq2+else-overflows, else-entry-eq2+else-not_canonical}
use Rattle.scalable.proofs.translation.find_pages.Goals as goal

-- past the test of the address, by PGTT
module _ (r : ScalableRegisters) (p : PasidEntry) (address : ℕ) (write : Bool) where
  second-alone : p.kind ≡ 2 → overflows r.base p.second_levels address ≡ false → kind_rules r p address write ≡ paged_rules r address write p
  unfolding kind_rules paged_rules second_pages
  second-alone is below =
      rw (eq-eqb p.kind 2 is, below) (ap (map_rules (to_page address)) (sym (within r p (wanted_of_page write) address [] below)))

  first-too : (p.kind ≡ 2 → ⊥) → not_canonical p.first_levels address ≡ false → kind_rules r p address write ≡ paged_rules r address write p
  unfolding kind_rules paged_rules
  first-too other fine = rw (ne_eqb p.kind 2 other, fine)

pub returns-then-overflows-clause-flags_after : goal.returns-then-overflows-clause-flags_after
unfolding paged_rules second_pages run
returns-then-overflows-clause-flags_after c = rw (c.stop.ensures, eq-eqb _ 2 c.if-entry-eq2.true, ← c.overflows.ensures, c.if-overflows.true)

pub returns-then-overflows-clause-pages_names : goal.returns-then-overflows-clause-pages_names
unfolding paged_rules second_pages last_tried
returns-then-overflows-clause-pages_names c = rw (c.stop.ensures, eq-eqb _ 2 c.if-entry-eq2.true, ← c.overflows.ensures, c.if-overflows.true)

pub returns-then-not_canonical-clause-flags_after : goal.returns-then-not_canonical-clause-flags_after
unfolding paged_rules run
returns-then-not_canonical-clause-flags_after c = rw (c.stop-then-not_canonical.ensures, ne_eqb _ _ c.if-entry-eq2.false, ← c.not_canonical.ensures, c.if-not_canonical.true)

pub returns-then-not_canonical-clause-pages_names : goal.returns-then-not_canonical-clause-pages_names
unfolding paged_rules last_tried
returns-then-not_canonical-clause-pages_names c = rw (c.stop-then-not_canonical.ensures, ne_eqb _ _ c.if-entry-eq2.false, ← c.not_canonical.ensures, c.if-not_canonical.true)

pub returns : goal.returns
returns c =
    let a = c.args in
    let m = memory_of a.memory.now in
    let e = c.walk_pages.ensures in
    let r = a.walk.space.registers in
    let p = a.walk.space.entry in
    let address = a.walk.asked.address in
    let write = a.walk.asked.write in
    let same : kind_rules r p address write ≡ paged_rules r address write p = elim c.if-entry-eq2.branch [
      | then-entry-eq2+else-overflows w ↦ second-alone r p address write w.if-entry-eq2.true (sym w.overflows.ensures ∙ w.if-overflows.false)
      | else-entry-eq2+else-not_canonical w ↦ first-too r p address write w.if-entry-eq2.false (sym w.not_canonical.ensures ∙ w.if-not_canonical.false)
    ] in record {
      flags_after = e.0 ∙ ap (λ q. run q m) same;
      pages_names = subst (λ q. PagesNames c.walk_pages.result (last_tried (entry_at a.at) q m)) same e.1;
      reachable = (e.2, e.3);
    }
