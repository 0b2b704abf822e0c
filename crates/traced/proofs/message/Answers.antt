use native.Mathlib.Omega.{arith}
use Rattle.traced.proofs.Heads.{added-message}
use Rattle.traced.proofs.message.Goals as goal

pub returns : goal.returns
returns c = added-message c.args.e.«data» c.args.e.destination (omega arith)
