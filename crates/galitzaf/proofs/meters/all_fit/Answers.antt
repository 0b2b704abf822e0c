use Rattle.std.proofs.Common.{arith, ◌≡◌, ℕ, ◌∙◌, ◌&&◌, ap, ap₂, Bool, get_or, length}
use Rattle.std.specs.Float.{nan}
use Rattle.std.specs.List.{list_all, range_with_len}
use Rattle.meter.proofs.Rows.{fit}
use Rattle.meter.specs.declared.Meter.{Meter}
use Rattle.galitzaf.specs.Meters.{meter_of}
use Rattle.galitzaf.proofs.Arrays.{all-looked, all_more}
use Rattle.galitzaf.proofs.meters.all_fit.Goals as goal

pub loop-i-preserved : goal.loop-i-preserved
loop-i-preserved c =
    let a = c.args in
    ap₂ (λ (s t : Bool). s && t) c.loop-i.invariant (c.fits-good.ensures ∙ ap (λ (m : Meter). fit m (get_or a.counts.now c.loop-i.i 0)) c.meter.ensures)
    ∙ all_more (λ i. fit (meter_of (get_or a.kinds.now i 0) (get_or a.lows.now i nan) (get_or a.highs.now i nan) (get_or a.loads.now i nan)) (get_or a.counts.now i 0)) c.loop-i.i

pub returns : goal.returns
returns c =
    let a = c.args in
    let all : c.loop-i.i ≡ length a.loads.now = omega arith in
    c.loop-i.invariant
    ∙ ap (λ (n : ℕ). list_all (λ i. fit (meter_of (get_or a.kinds.now i 0) (get_or a.lows.now i nan) (get_or a.highs.now i nan) (get_or a.loads.now i nan)) (get_or a.counts.now i 0)) (range_with_len 0 n)) all
    ∙ all-looked a.kinds.now a.lows.now a.highs.now a.loads.now a.counts.now a.counts.now (omega arith) (omega arith) (omega arith) (omega arith) nan
