use Rattle.std.proofs.Common.{◌≡◌, ◌++◌, map, take, drop}
use Rattle.meter.specs.Meter.{cleared}
use Rattle.meter.proofs.row.reset_row.Given as goal

abbrev pub invariant-loop-meter : goal.invariant-loop-meter
invariant-loop-meter l = l.row ≡ map cleared (take l.meter-index l.initial.row) ++ drop l.meter-index l.initial.row
