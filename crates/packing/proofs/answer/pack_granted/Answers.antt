use Rattle.packing.proofs.FourWords.{low-alone}
use Rattle.packing.proofs.answer.pack_granted.Goals as goal

pub returns : goal.returns
returns c = rw (c.head.ensures, low-alone)
