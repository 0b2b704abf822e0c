use native.Mathlib.Nat.{mod-lt}
use native.Mathlib.Omega.{arith}
use Rattle.regions.proofs.known.slot.Goals as goal

pub place64-page-requires : goal.place64-page-requires
place64-page-requires c = (c.args.memory.now.opened.0, omega (arith, c.requires.1))

pub returns : goal.returns
returns c = mod-lt _ c.requires.0
