use Prim.Native.Nat.{ℕ, ◌+◌, ◌*◌, ◌%◌, ◌≤◌}
use mathlib.Core.Path.{◌≡◌, refl, sym, subst}
use native.Mathlib.Omega.{arith}
use lib.ListN.{length}
use Rattle.image.specs.Answers.{memory_of}
use Rattle.translation.specs.Rights.{both}
use Rattle.regions.specs.Answers.{region_of}
use Rattle.regions.specs.Outside.{table_outside}
use Rattle.regions.proofs.Regions.{same-region}
use Rattle.mapping.specs.Answers.{next_of}
use Rattle.mapping.specs.Mapping.{regions_over}
use Rattle.mapping.specs.Search.{Fresh, FirstSpan, IsNext}
use Rattle.mapping.proofs.SpanLaws.{fresh-zero}
use Rattle.mapping.proofs.RowByRow.{Done, done_none, done_more}
use Rattle.mapping.proofs.filling.fill.Goals.{In-Some}
use Rattle.mapping.proofs.filling.fill.Goals as goal

pub loop-count-init : goal.loop-count-init
loop-count-init c =
    let a = c.args in
    let region = regions_over a.tables a.memory.now.windows.now a.memory.now.image.now in (
      done_none region a.end a.rows.now,
      refl,
      omega arith,
      fresh-zero region a.end
          (λ x y. same-region a.tables.registers (memory_of a.memory.now) (table_outside a.memory.now.windows.now) x y a.tables.levels a.tables.top both),
      c.requires.2,
      omega arith,
    )

-- the span that was found
first : (c : In-Some)
    → FirstSpan (regions_over c.args.tables c.args.memory.now.windows.now c.args.memory.now.image.now) c.args.end
    c.loop-count.from c.in-Some.start (region_of c.in-Some.region)
first c =
    let a = c.args in
    subst (λ t. IsNext (regions_over a.tables a.memory.now.windows.now a.memory.now.image.now) a.end c.loop-count.from (next_of t)) c.in-Some.is c.next_span.ensures.next

pub loop-count-preserved : goal.loop-count-preserved
loop-count-preserved c =
    let l = c.loop-count in
    let a = c.args in
    let region = regions_over a.tables a.memory.now.windows.now a.memory.now.image.now in
    let found = first (goal.at.loop-count-preserved c).In-Some in
    let span = sym c.table_span.ensures.0 in
    let start = c.in-Some.start in
    let fits : 4 * l.count + 4 ≤ length a.rows.now = omega (arith, c.room-most.ensures, l.invariant.5, c.if-count-most.false) in (
      subst (λ (s : ℕ). Done region a.end a.rows.now c.put_span.new.rows (l.count + 1) (start + s)) span
          (done_more region a.end a.rows.now l.invariant.0 found fits c.put_span.ensures),
      subst (λ (s : ℕ). (start + s) % 4096 ≡ 0) span found.page,
      omega (arith, found.below, c.requires.0, c.table_span.ensures.2),
      subst (λ (s : ℕ). Fresh region (start + s)) span found.fresh,
      c.next_span.ensures.known_len_unchanged.1,
      omega (arith, l.invariant.5, c.if-count-most.false),
    )

pub returns-after-loop-count-clause-filled_with : goal.returns-after-loop-count-clause-filled_with
returns-after-loop-count-clause-filled_with c = absurd (omega (arith, c.loop-count.invariant.5, c.loop-count-test.false))
