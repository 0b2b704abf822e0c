use Prim.Native.Nat.{◌+◌, ◌/◌, ◌%◌}
use mathlib.Core.Path.{ap}
use native.Mathlib.Omega.{arith}
use lib.Bits.{and_le_l}
use lib.ListN.{get_or, set}
use Rattle.takes.specs.Take.{clear_bit}
use Rattle.takes.proofs.Bitwise.{without-bit}
use Rattle.takes.proofs.clear_bit.Goals as goal

pub overflow_sub-image : goal.overflow_sub-image
overflow_sub-image c = and_le_l _ _

pub returns : goal.returns
unfolding clear_bit
returns c =
    let a = c.args in
    let at = a.at + a.place / 8 in
    ap (set a.image.now at) (without-bit (get_or a.image.now at 0) (a.place % 8) (omega arith))
