use Rattle.std.proofs.Common.{◌-◌, ◌*◌, ◌/◌, length, ◌∙◌, arith}
use Rattle.region.proofs.Turns.{out_on, out_done}
use Rattle.region.proofs.copy.copy_out.Goals as goal

pub loop-word-preserved : goal.loop-word-preserved
loop-word-preserved c =
    let l = c.loop-word in
    let a = c.args in
    out_on a.windows.now a.copy.now a.start l.image (length a.copy.now / 8) l.word (omega arith) c.entry_of.ensures c.store_at.ensures
    ∙ l.invariant

pub returns : goal.returns
returns c =
    let l = c.loop-word in
    let a = c.args in
    out_done a.windows.now a.copy.now a.start l.image (length a.copy.now / 8 - l.word) (8 * l.word) (omega arith) ∙ l.invariant
