use Rattle.std.proofs.Common.{◌∙◌, arith, ◌-◌}
use Rattle.tables.specs.Tables.{tables}
use Rattle.tables.proofs.Changes.{leaf_on, leaf_done}
use Rattle.tables.proofs.map.put_leaf.Goals as goal

pub loop-below-preserved : goal.loop-below-preserved
loop-below-preserved c =
    let l = c.loop-below in
    let a = c.args in
    leaf_on a.start a.leaf.place a.leaf.last a.leaf.entry l.below (l.below - 1 - a.leaf.last) (l.below - 1) _ l.to (tables l.bytes l.marks) (omega arith) (omega arith) (omega arith) c.new_table-table.ensures.value.0 c.place_of-to.ensures.0 c.new_table-table.ensures.marks_after
    ∙ l.invariant

pub returns : goal.returns
returns c =
    let l = c.loop-below in
    let a = c.args in
    leaf_done a.start a.leaf.place a.leaf.last a.leaf.entry (l.below - a.leaf.last) l.to l.bytes l.marks (omega arith) c.store8.ensures
    ∙ l.invariant
