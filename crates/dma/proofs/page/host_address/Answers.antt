use Prim.Native.Nat.{◌+◌, ◌*◌, ◌-◌}
use native.Mathlib.Omega.{arith}
use lib.Pow.{pow_pos}
use Rattle.dma.proofs.Steps.{offset-of, offset-lt, span-le}
use Rattle.dma.proofs.page.host_address.Goals as goal

pub nonzero_rem-result : goal.nonzero_rem-result
nonzero_rem-result c = rw c.span_at.ensures (pow_pos (12 + 9 * (c.args.level - 1)))

pub overflow_add-result : goal.overflow_add-result
overflow_add-result c =
    let a = c.args in
    rw (c.span_at.ensures, offset-of a.address a.level) (omega (arith, offset-lt a.address a.level, span-le a.level c.requires.2))

pub returns : goal.returns
returns c = let a = c.args in rw (c.span_at.ensures, offset-of a.address a.level)
