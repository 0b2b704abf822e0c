use Rattle.packing.proofs.FourWords.{low-alone}
use Rattle.packing.proofs.answer.short.Goals as goal

pub returns : goal.returns
returns c = rw (low-alone 0)
