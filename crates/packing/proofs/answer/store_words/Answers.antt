use Rattle.packing.proofs.FourWords.{four-stored}
use Rattle.packing.proofs.answer.store_words.Goals as goal

-- The four words stand one behind the other, and fill the buffer.
pub returns : goal.returns
returns c =
    let f = c.ranges in
    rw (c.store8-4.ensures, c.store8-3.ensures, c.store8-2.ensures, c.store8.ensures)
    (four-stored c.args.buffer.now c.args.head c.args.low c.args.high c.args.last c.requires f.head.fits f.low.fits f.high.fits f.last.fits)
