use Prim.Native.Nat.{◌+◌, ◌-◌, ◌*◌, ◌<◌}
use mathlib.Core.Path.{◌≡◌, refl, sym, ◌∙◌}
use native.Mathlib.Omega.{arith}
use Rattle.std.specs.Prelude.{Option, Some, None, is_some}
use Rattle.image.specs.Answers.{memory_of}
use Rattle.translation.specs.Rights.{both}
use Rattle.regions.specs.Answers.{what_of, region_of}
use Rattle.regions.specs.Outside.{table_outside}
use Rattle.regions.specs.Region.{is_listed}
use Rattle.regions.specs.declared.What.{What}
use Rattle.regions.specs.declared.What.TheVariants as what
use Rattle.regions.proofs.Regions.{same-region}
use Rattle.mapping.specs.Mapping.{regions_over}
use Rattle.mapping.proofs.SpanLaws.{QuietFrom}
use Rattle.mapping.proofs.NextSpan.{block_more, block-page, none_left, quiet-on, fresh_on, found}
use Rattle.mapping.proofs.search.next_span.Goals.{After-block_end-at}
use Rattle.mapping.proofs.search.next_span.Goals as goal

-- something is listed where something stands
listed : (w : Option What) → is_listed (what_of w) ≡ is_some w
listed (Some (what.Page frame)) = refl
listed (Some (what.Fault reason)) = refl
listed (Some (what.Refused number)) = refl
listed None = refl

pub returns-then-is_some-clause-next : goal.returns-then-is_some-clause-next
returns-then-is_some-clause-next c =
    let l = c.loop-at in
    let a = c.args in
    found (regions_over a.tables a.memory.now.windows.now a.memory.now.image.now) a.end
    (λ x y. same-region a.tables.registers (memory_of a.memory.now) (table_outside a.memory.now.windows.now) x y a.tables.levels a.tables.top both)
    a.from l.at (region_of c.quick_region-region.result) c.requires.2 l.invariant.1 c.requires.1 l.invariant.0 c.loop-at-test.true l.invariant.3 l.invariant.4
    c.quick_region-region.ensures (listed _ ∙ sym c.is_some.ensures ∙ c.if-is_some.true)

-- the end of a block lies behind its addresses
more : (c : After-block_end-at) → c.loop-at.at < c.block_end-at.result
more c = block_more (12 + 9 * (c.quick_region-region.result.level - 1)) c.loop-at.at c.block_end-at.ensures.0

-- nothing is listed up to there
quiet : (c : After-block_end-at)
    → QuietFrom
    (regions_over c.args.tables c.args.memory.now.windows.now c.args.memory.now.image.now)
    c.args.end c.args.from c.block_end-at.result
quiet c =
    let l = c.loop-at in
    let a = c.args in
    quiet-on (regions_over a.tables a.memory.now.windows.now a.memory.now.image.now) a.end
    (λ x y. same-region a.tables.registers (memory_of a.memory.now) (table_outside a.memory.now.windows.now) x y a.tables.levels a.tables.top both)
    a.from l.at c.block_end-at.result (region_of c.quick_region-region.result) c.quick_region-region.ensures
    (listed _ ∙ sym c.is_some.ensures ∙ c.if-is_some.false) c.block_end-at.ensures.0 l.invariant.3

pub remember_tables-requires : goal.remember_tables-requires
remember_tables-requires c =
    let pre = c.requires in
    let here = (goal.at.remember_tables-requires c).After-block_end-at in (
      omega (arith, pre.3),
      omega (arith, c.block_end-at.ensures.1, c.loop-at-test.true, pre.0),
      λ x low high. quiet here x low (omega (arith, high, more here)),
      c.loop-at.invariant.5,
    )

pub loop-at-preserved : goal.loop-at-preserved
loop-at-preserved c =
    let l = c.loop-at in
    let a = c.args in
    let width = 12 + 9 * (c.quick_region-region.result.level - 1) in
    let here = (goal.at.loop-at-preserved c).After-block_end-at in (
      omega (arith, l.invariant.0, more here),
      block-page width l.at c.block_end-at.ensures.0 (omega arith) l.invariant.1,
      omega (arith, c.block_end-at.ensures.1, c.loop-at-test.true, c.requires.0),
      quiet here,
      fresh_on (regions_over a.tables a.memory.now.windows.now a.memory.now.image.now) a.end
          (λ x y. same-region a.tables.registers (memory_of a.memory.now) (table_outside a.memory.now.windows.now) x y a.tables.levels a.tables.top both)
          a.from l.at c.block_end-at.result l.invariant.0 (more here) (quiet here),
      c.remember_tables.ensures.1,
    )

pub returns-clause-next : goal.returns-clause-next
returns-clause-next c =
    let l = c.loop-at in
    let a = c.args in
    none_left (regions_over a.tables a.memory.now.windows.now a.memory.now.image.now) a.end
    (λ x y. same-region a.tables.registers (memory_of a.memory.now) (table_outside a.memory.now.windows.now) x y a.tables.levels a.tables.top both)
    a.from l.at c.requires.2 l.invariant.1 l.invariant.0 l.invariant.3 c.loop-at-test.false
