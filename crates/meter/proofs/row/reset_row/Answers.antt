use Rattle.std.proofs.Common.{arith}
use Rattle.std.proofs.lemmas.List.Edits.{map_over_more}
use Rattle.std.proofs.lemmas.Grind.{common_steps}
use Rattle.meter.specs.Meter.{cleared}
use Rattle.meter.proofs.row.reset_row.Goals as goal

pub loop-meter-preserved : goal.loop-meter-preserved
loop-meter-preserved c = grind (arith, common_steps, map_over_more cleared)
