use Rattle.std.proofs.Common.{◌∙◌, arith, ◌/◌, length, refl}
use Rattle.tables.specs.Tables.{tables}
use Rattle.builder.proofs.Takes.{items_stop, items_on, items_done, some_number}
use Rattle.builder.proofs.items.take_items.Goals as goal

pub returns-in-Err : goal.returns-in-Err
returns-in-Err c =
    let l = c.loop-i in
    let a = c.args in
    items_stop a.registers a.tree a.items.now (length a.items.now / 4) l.i (tables l.copy l.marks) (omega arith) c.item_at.ensures c.in-Err.ensures (some_number c.in-Err.error)
    ∙ l.invariant

pub loop-i-preserved : goal.loop-i-preserved
loop-i-preserved c =
    let l = c.loop-i in
    let a = c.args in
    items_on a.registers a.tree a.items.now (length a.items.now / 4) l.i (tables l.copy l.marks) (omega arith) c.item_at.ensures c.in_default.ensures refl
    ∙ l.invariant

pub returns : goal.returns
returns c =
    let l = c.loop-i in
    let a = c.args in
    items_done a.registers a.tree a.items.now (length a.items.now / 4) l.i (tables l.copy l.marks) (omega arith) ∙ l.invariant
