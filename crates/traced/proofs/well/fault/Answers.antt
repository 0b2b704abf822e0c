use Rattle.image.specs.Bits.{bits}
use Rattle.traced.proofs.well.fault.Goals as goal

pub returns : goal.returns
unfolding bits
returns c = cc
