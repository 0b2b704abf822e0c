use Prim.Native.Nat.{◌+◌, ◌/◌, ◌%◌}
use mathlib.Core.Path.{ap}
use native.Mathlib.Omega.{arith}
use lib.ListN.{get_or, set}
use Rattle.interrupts.specs.Post.{set_bit}
use Rattle.interrupts.proofs.Posts.{with-bit}
use Rattle.interrupts.proofs.post.set_bit.Goals as goal

pub returns : goal.returns
unfolding set_bit
returns c =
    let a = c.args in
    let at = a.at + a.place / 8 in
    ap (set a.image.now at) (with-bit (get_or a.image.now at 0) (a.place % 8) (omega arith))
