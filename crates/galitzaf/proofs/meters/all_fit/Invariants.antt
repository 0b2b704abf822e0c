use Rattle.std.proofs.Common.{◌≡◌, get_or}
use Rattle.std.specs.Float.{nan}
use Rattle.std.specs.List.{list_all, range_with_len}
use Rattle.meter.proofs.Rows.{fit}
use Rattle.galitzaf.specs.Meters.{meter_of}
use Rattle.galitzaf.proofs.meters.all_fit.Given as goal

-- all looked at so far fit
abbrev pub invariant-loop-i : goal.invariant-loop-i
invariant-loop-i l =
    l.good ≡ list_all (λ i. fit (meter_of (get_or l.kinds i 0) (get_or l.lows i nan) (get_or l.highs i nan) (get_or l.loads i nan)) (get_or l.counts i 0)) (range_with_len 0 l.i)
