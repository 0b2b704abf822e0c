use Rattle.packing.proofs.FourWords.{head_bytes_lem}
use Rattle.packing.proofs.answer.head.Goals as goal

pub returns : goal.returns
returns c =
    let f = c.ranges in
    let a = c.args in
    head_bytes_lem a.kind a.one a.two a.three a.four f.kind.fits f.one.fits f.two.fits f.three.fits
