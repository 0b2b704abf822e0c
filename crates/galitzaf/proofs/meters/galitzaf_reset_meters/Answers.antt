use Rattle.std.proofs.Common.{ap, ◌∙◌, ℕ, List, length, refl}
use Rattle.std.specs.Float.{Float}
use Rattle.std.proofs.lemmas.Simd.{splat_is_map}
use Rattle.meter.specs.Meter.{nought}
use Rattle.galitzaf.proofs.meters.galitzaf_reset_meters.Goals as goal

answered : List Float → ℕ × List Float
answered loads = (0, loads)

pub returns : goal.returns
unfolding answered
returns c =
    let loads = c.args.loads.now in
    ap answered (c.fill.ensures.after (λ y e. e) ∙ splat_is_map loads (length loads) nought refl)
