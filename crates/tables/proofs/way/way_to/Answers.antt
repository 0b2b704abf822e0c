use Rattle.std.proofs.Common.{◌≡◌, ◌-◌, Bool, ap, sym, ◌∙◌, arith}
use Rattle.dma.specs.Walk.{place_in}
use Rattle.tables.specs.Tables.{held_entry, table_of}
use Rattle.tables.specs.Way.{ends, way_to}
use Rattle.tables.specs.declared.way.Stop.{Stop}
use Rattle.tables.proofs.Folds.{way_ends, way_on, way_done}
use Rattle.tables.proofs.way.way_to.Goals.{After-ends}
use Rattle.tables.proofs.way.way_to.Goals as goal

read : (c : After-ends) → c.stop_in-stop.result.entry ≡ held_entry c.args.bytes.now (place_in c.args.place c.loop-below.table c.loop-below.below)
read c = ap (λ (s : Stop). s.entry) c.stop_in-stop.ensures

-- whether the way ends at the entry that a turn reads
told : (c : After-ends) {t : Bool} → c.ends.result ≡ t
    → ends c.args.last c.loop-below.below (held_entry c.args.bytes.now (place_in c.args.place c.loop-below.table c.loop-below.below)) ≡ t
told c h = ap (ends c.args.last c.loop-below.below) (sym (read c)) ∙ sym c.ends.ensures ∙ h

pub returns-then-ends : goal.returns-then-ends
returns-then-ends c =
    let l = c.loop-below in
    let a = c.args in
    record {
      value = c.stop_in-stop.ensures
          ∙ way_ends a.bytes.now a.tree.start a.place a.last l.table l.below c.loop-below-test.true (told (goal.at.returns-then-ends c).After-ends c.if-ends.true)
          ∙ l.invariant.0;
      below_le_below = rw c.stop_in-stop.ensures (l.auto.below, l.invariant.1);
    }

pub loop-below-preserved : goal.loop-below-preserved
loop-below-preserved c =
    let l = c.loop-below in
    let a = c.args in (
      ap (way_to a.bytes.now a.tree.start a.place a.last (l.below - 1)) (c.table_of-table.ensures.0 ∙ ap (table_of a.tree.start) (read (goal.at.loop-below-preserved c).After-ends))
          ∙ way_on a.bytes.now a.tree.start a.place a.last l.table l.below c.loop-below-test.true (told (goal.at.loop-below-preserved c).After-ends c.if-ends.false)
          ∙ l.invariant.0,
      c.table_of-table.ensures.1,
    )

pub returns : goal.returns
returns c =
    let l = c.loop-below in
    let a = c.args in
    record {
      value = c.stop_in.ensures ∙ way_done a.bytes.now a.tree.start a.place a.last l.table l.below (omega arith) ∙ l.invariant.0;
      below_le_below = rw c.stop_in.ensures (omega arith, l.invariant.1);
    }
