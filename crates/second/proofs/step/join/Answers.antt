use Rattle.second.proofs.Rights.{bit-and}
use Rattle.second.proofs.step.join.Goals as goal

pub returns : goal.returns
returns c = let a = c.args in (bit-and a.rights a.e 0, bit-and a.rights a.e 1)
