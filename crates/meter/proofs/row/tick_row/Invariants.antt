use Rattle.std.proofs.Common.{◌≡◌}
use Rattle.meter.proofs.Rows.{steps, marks}
use Rattle.meter.proofs.row.tick_row.Given as goal

abbrev pub invariant-loop-i : goal.invariant-loop-i
invariant-loop-i l =
    record { ticked : l.row ≡ steps l.i l.fn.row l.fn.counts; marked : l.bytes ≡ marks l.i l.fn.row l.fn.counts l.fn.bytes }
