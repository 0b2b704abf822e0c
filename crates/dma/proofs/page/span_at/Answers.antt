use Prim.Native.Nat.{◌+◌, ◌*◌, ◌-◌}
use native.Mathlib.Omega.{arith}
use Rattle.image.proofs.Fields.{shifted_one}
use Rattle.dma.proofs.page.span_at.Goals as goal

pub returns : goal.returns
returns c = rw (shifted_one (12 + 9 * (c.args.level - 1)) (omega (arith, c.requires.1)))
