use Prim.Native.Nat.{ℕ, zero, suc, ◌<◌, ◌≤◌}
use mathlib.Core.Bool.{Bool, true, false, ◌||◌}
use mathlib.Core.Path.{◌≡◌, refl, ap, sym, ◌∙◌}
use native.Mathlib.Omega.{arith}
use borrow.Author.Tests.{eqb-true, eqb-false}
use lib.Dec.{eqb}
use lib.ListN.{take}
use Rattle.std.proofs.lemmas.Result.{err_from_is_err_and}
use Rattle.image.specs.Answers.{memory_of}
use Rattle.image.specs.Rules.{run}
use Rattle.image.proofs.Choices.{neither, above_zero}
use Rattle.pasid.specs.declared.table.PasidEntry.{PasidEntry}
use Rattle.nested.specs.Pages.{first_handed, locate, SecondWalkable}
use Rattle.nested.specs.Positions.{PositionFits}
use Rattle.nested.specs.declared.position.Position.{Position}
use Rattle.nested.proofs.Leads.{PageTells, page-tells, fault-tells}
use Rattle.nested.proofs.Nested.{itself}
use Rattle.nested.proofs.Rests.{entry_place}
use Rattle.nested.proofs.way.locate.Goals.{After-host_address-host, Else-not-through_second}
use Rattle.nested.proofs.way.locate.Goals as goal

few : (p : PasidEntry) (s : Position) → PositionFits p s → s.level ≤ 5
few p s fits = by s.level (λ more. (fits.0 more).1)
  where
    by : (level : ℕ) → (0 < level → level ≤ 5) → level ≤ 5
    by zero h = omega arith
    by (suc n) h = h (omega arith)

asks : (p : PasidEntry) (s : Position) → PositionFits p s → (eqb s.level 0 || eqb p.kind 3) ≡ true → SecondWalkable p × (s.count ≤ 41)
asks p s fits second = by (eqb s.level 0) refl
  where
    by : (t : Bool) → eqb s.level 0 ≡ t → SecondWalkable p × (s.count ≤ 41)
    by true q = fits.1 (eqb-true s.level 0 q)
    by false q =
        let more = above_zero s.level q in
        let first = fits.0 more in
        (first.0.4 (eqb-true p.kind 3 (rw q at second)), omega (arith, first.4))

pub place_of-place-requires : goal.place_of-place-requires
place_of-place-requires c =
    let fits = c.requires.0 in
    (few c.args.walk.space.entry c.args.position fits, λ more. ((fits.0 more).2, (fits.0 more).3))

-- an entry, which stands at its address itself
pub returns-then-not-through_second : goal.returns-then-not-through_second
returns-then-not-through_second c =
    let w = c.args.walk in
    let s = c.args.position in
    let m = memory_of c.args.memory.now in
    let at = c.place_of-place in
    let given = first_handed s.top (take s.count c.args.flags.now) in
    let other = neither _ _ (sym c.through_second.ensures ∙ c.if-not-through_second.true) in
    let more = above_zero s.level other.0 in
    let place = entry_place w.space.registers w.space.entry w.asked.address w.asked.write m s.level s.at at.result given at.ensures.value more in
    let fine = at.ensures.result_value more in (
      more,
      fine.0,
      omega (arith, fine.1),
      omega arith,
      itself w.space.registers w.space.entry given at.result m (eqb-false w.space.entry.kind 3 other.1)
          ∙ ap (λ (x : ℕ). run (locate w.space.registers w.space.entry given x) m) place,
    )

-- or the second level is asked
pub intermediate-requires : goal.intermediate-requires
intermediate-requires c =
    let may = asks c.args.walk.space.entry c.args.position c.requires.0 (sym c.through_second.ensures ∙ c.if-not-through_second.false) in
    (may.0, omega (arith, may.1, c.requires.1))

pub returns-in_err-page : goal.returns-in_err-page
returns-in_err-page c =
    let a = c.args in
    let at = c.place_of-place in
    let e = c.in_err-page.ensures in
    let p = err_from_is_err_and c.from_residual.result c.from_residual.ensures.1 in
    rw (p.1, p.2)
    (fault-tells a.walk a.position (memory_of a.memory.now) a.flags.now c.intermediate.new.flags at.result at.ensures.value
    (sym c.through_second.ensures ∙ c.if-not-through_second.false) c.in_err-page.field-0.0 e.flags_after e.names)

told : (c : After-host_address-host) → let a = c.args in let p = c.in_ok-page.page in
    PageTells a.walk a.position (memory_of a.memory.now) a.flags.now c.intermediate.new.flags c.place_of-place.result p.frame p.level c.host_address-host.result p.writable p.count
told c =
    let a = c.args in
    let at = c.place_of-place in
    let e = c.in_ok-page.ensures in
    page-tells a.walk a.position (memory_of a.memory.now) a.flags.now c.intermediate.new.flags at.result at.ensures.value
    (sym c.through_second.ensures ∙ c.if-not-through_second.false) c.requires.0 (λ more. (at.ensures.result_value more).0) c.host_address-host.ensures
    e.flags_after e.reachable e.grown.1

pub returns-then-position-eq0 : goal.returns-then-position-eq0
returns-then-position-eq0 c = (told (goal.at.returns-then-position-eq0 c).After-host_address-host).0 c.if-position-eq0.true

pub returns : goal.returns
returns c = (told (goal.at.returns c).After-host_address-host).1 c.if-position-eq0.false
