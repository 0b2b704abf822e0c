use Rattle.std.proofs.Common.{◌≡◌}
use Rattle.meter.proofs.Rows.{steps, marks}
use Rattle.galitzaf.specs.Meters.{row_of, loads_of}
use Rattle.galitzaf.proofs.Arrays.{Matched}
use Rattle.galitzaf.proofs.meters.galitzaf_tick_meters.Given as goal

-- every array has a place for each meter, and the first i of loads and bytes are ticked
abbrev pub invariant-loop-i : goal.invariant-loop-i
invariant-loop-i l = record {
  matched : Matched l.kinds l.lows l.highs l.initial.loads l.counts l.initial.bytes;
  ticked : l.loads ≡ loads_of (steps l.i (row_of l.kinds l.lows l.highs l.initial.loads) l.counts);
  marked : l.bytes ≡ marks l.i (row_of l.kinds l.lows l.highs l.initial.loads) l.counts l.initial.bytes;
}
