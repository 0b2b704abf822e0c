use lib.ListN.{length}
use Rattle.trace.proofs.Tests.{past}
use Rattle.trace.proofs.is_past.Goals as goal

pub returns : goal.returns
returns c = past (length c.args.bytes.now) c.args.place
