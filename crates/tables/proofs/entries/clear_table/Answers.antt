use Rattle.tables.proofs.Folds.{zeroed_on, zeroed_done}
use Rattle.std.proofs.Common.{sym, ◌∙◌, arith, ◌-◌, ◌+◌, ◌*◌}
use Rattle.tables.proofs.entries.clear_table.Goals as goal

pub loop-word-preserved : goal.loop-word-preserved
loop-word-preserved c =
    let l = c.loop-word in
    rw c.store8.ensures (zeroed_on l.bytes c.args.table 512 l.word (omega arith) ∙ l.invariant)

pub returns : goal.returns
returns c =
    let l = c.loop-word in
    sym (zeroed_done l.bytes 0 (512 - l.word) (c.args.table + 8 * l.word) (omega arith)) ∙ l.invariant
