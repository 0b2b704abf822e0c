use Prim.Native.Nat.{◌<◌, ◌^◌}
use native.Mathlib.Omega.{arith}
use lib.Dec.{lit<}
use Rattle.registers.proofs.Powers.{from-bit}
use Rattle.image.proofs.Fields.{low_field}
use Rattle.dma.specs.Context.{context_reserved}
use Rattle.dma.proofs.context.context_reserved.Goals as goal

pub returns : goal.returns
unfolding context_reserved
returns c =
    let low : c.args.e.low < 2 ^ 64 = omega arith in
    let high : c.args.e.high < 2 ^ 64 = omega arith in
    rw (low_field low high 63 c.args.haw (lit< tt), from-bit c.args.haw low, c.any_set.ensures, c.bit.ensures, c.any_set-2.ensures, c.at_or_above_power.ensures)
