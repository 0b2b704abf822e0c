use mathlib.Core.Path.{◌∙◌}
use Rattle.faults.proofs.Buffer.{two-stored}
use Rattle.faults.proofs.slots.write_record.Goals as goal

-- The two words stand one behind the other.
pub returns : goal.returns
returns c =
    let first = c in
    let s = first in
    c.store8-2.ensures
    ∙ two-stored s.args.buffer.now s.args.slot s.args.low s.args.high s.requires s.ranges.low.fits
    s.ranges.high.fits first.store8.ensures
