use Rattle.packing.proofs.FourWords.{low-alone}
use Rattle.packing.proofs.answer.pack_posted.Goals as goal

pub returns-in-None : goal.returns-in-None
returns-in-None c = rw (c.head.ensures, low-alone c.args.descriptor, c.in-None.is)

pub returns-in-Some : goal.returns-in-Some
returns-in-Some c = rw (c.head-in-Some.ensures, low-alone c.args.descriptor, c.in-Some.is)
