use Rattle.std.proofs.Common.{◌-◌, length, ◌∙◌, arith}
use Rattle.tables.proofs.Folds.{again}
use Rattle.marking.proofs.Turns.{level_bad, level_on, level_done}
use Rattle.marking.proofs.mark_level.Goals as goal

pub returns-then-not-mark_table : goal.returns-then-not-mark_table
returns-then-not-mark_table c =
    let l = c.loop-page in
    let a = c.args in
    level_bad a.bytes.now a.tree a.below l.page l.marks (length a.marks.now - l.page) _ (again (length a.marks.now) l.page (omega arith)) c.mark_table.ensures (c.if-not-mark_table.true) ∙ l.invariant

pub loop-page-preserved : goal.loop-page-preserved
loop-page-preserved c =
    let l = c.loop-page in
    let a = c.args in
    level_on a.bytes.now a.tree a.below l.page l.marks (length a.marks.now - l.page) _ (again (length a.marks.now) l.page (omega arith)) c.mark_table.ensures (c.if-not-mark_table.false) ∙ l.invariant

pub returns : goal.returns
returns c =
    let l = c.loop-page in
    let a = c.args in
    level_done a.bytes.now a.tree a.below l.page l.marks (length a.marks.now - l.page) (omega arith) ∙ l.invariant
