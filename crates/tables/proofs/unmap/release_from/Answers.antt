use Rattle.std.proofs.Common.{sym, ◌∙◌, arith, ◌-◌}
use Rattle.tables.specs.Tables.{tables}
use Rattle.tables.proofs.Changes.{released_on, released_stop, released_done}
use Rattle.tables.proofs.unmap.release_from.Goals as goal

pub returns-then-not-is_empty : goal.returns-then-not-is_empty
returns-then-not-is_empty c =
    let l = c.loop-below in
    let a = c.args in
    released_stop a.tree a.place l.below (tables l.bytes l.marks) c.loop-below-test.true c.way_to-stop.ensures.value (sym c.is_empty.ensures ∙ c.if-not-is_empty.true)
    ∙ l.invariant

pub loop-below-preserved : goal.loop-below-preserved
loop-below-preserved c =
    let l = c.loop-below in
    let a = c.args in
    released_on a.tree a.place l.below (tables l.bytes l.marks) c.loop-below-test.true c.way_to-stop.ensures.value (sym c.is_empty.ensures ∙ c.if-not-is_empty.false) c.way_to-above.ensures.value c.release_table.ensures
    ∙ l.invariant

pub returns : goal.returns
returns c =
    let l = c.loop-below in
    let a = c.args in
    released_done a.tree a.place l.below (tables l.bytes l.marks) (a.tree.below - l.below) (omega arith) ∙ l.invariant
