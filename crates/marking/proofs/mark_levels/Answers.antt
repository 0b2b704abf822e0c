use Rattle.std.proofs.Common.{◌≡◌, ◌+◌, ◌-◌, ◌∙◌, arith, add-one}
use Rattle.marking.proofs.Turns.{levels_bad, levels_on, levels_done}
use Rattle.marking.proofs.mark_levels.Goals as goal

pub returns-then-not-mark_level : goal.returns-then-not-mark_level
returns-then-not-mark_level c =
    let l = c.loop-below in
    let a = c.args in
    levels_bad a.bytes.now a.tree l.marks (l.below + 1) l.below (add-one l.below) c.mark_level.ensures (c.if-not-mark_level.true) ∙ l.invariant

pub loop-below-preserved : goal.loop-below-preserved
loop-below-preserved c =
    let l = c.loop-below in
    let a = c.args in
    let next : l.below - 1 + 1 ≡ l.below = omega arith in
    rw next (levels_on a.bytes.now a.tree l.marks (l.below + 1) l.below (add-one l.below) c.mark_level.ensures (c.if-not-mark_level.false) ∙ l.invariant)

pub returns-else-not-mark_level : goal.returns-else-not-mark_level
returns-else-not-mark_level c =
    let l = c.loop-below in
    let a = c.args in
    levels_done a.bytes.now a.tree c.mark_level.new.marks l.below (omega arith)
    ∙ levels_on a.bytes.now a.tree l.marks (l.below + 1) l.below (add-one l.below) c.mark_level.ensures (c.if-not-mark_level.false)
    ∙ l.invariant
