use Rattle.registers.proofs.Powers.{from-bit}
use Rattle.irte.proofs.reserved.reserved_in_posted.Goals as goal

pub returns : goal.returns
returns c = cc (from-bit c.args.haw c.descriptor_address.ensures.1)
