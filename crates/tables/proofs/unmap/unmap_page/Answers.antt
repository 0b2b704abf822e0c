use Rattle.std.proofs.Common.{sym, ◌∙◌}
use Rattle.tables.specs.Tables.{tables}
use Rattle.tables.proofs.Changes.{no_leaf, taken_out}
use Rattle.tables.proofs.unmap.unmap_page.Goals as goal

pub returns-then-not-is_leaf_here : goal.returns-then-not-is_leaf_here
returns-then-not-is_leaf_here c =
    let a = c.args in
    no_leaf a.tree a.place a.last (tables a.bytes.now a.marks.now) c.way_to-stop.ensures.value (sym c.is_leaf_here.ensures ∙ c.if-not-is_leaf_here.true)

pub returns : goal.returns
returns c =
    let a = c.args in
    taken_out a.tree a.place a.last (tables a.bytes.now a.marks.now) c.way_to-stop.ensures.value (sym c.is_leaf_here.ensures ∙ c.if-not-is_leaf_here.false)
    c.store8.ensures c.release_from.ensures
