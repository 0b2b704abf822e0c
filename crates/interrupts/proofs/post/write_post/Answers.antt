use Rattle.std.proofs.Common.{◌+◌, ◌≤◌, length, ap, ◌∙◌, arith}
use Rattle.interrupts.proofs.Exact.{length-set_bit, at-inside}
use Rattle.interrupts.proofs.post.write_post.Goals.{After-place64-at}
use Rattle.interrupts.proofs.post.write_post.Goals as goal

-- the descriptor ends in the run
whole : (c : After-place64-at) → c.place64-at.result + 64 ≤ length c.args.image.now
whole c =
    let a = c.args in
    at-inside a.windows.now a.image.now a.posted.descriptor c.place64-at.ensures c.requires.1.2 c.requires.0

pub set_bit-requires : goal.set_bit-requires
set_bit-requires c = let w = whole (goal.at.set_bit-requires c).After-place64-at in omega (arith, w)

pub set_bit-requires-then-is_some : goal.set_bit-requires-then-is_some
set_bit-requires-then-is_some c =
    let a = c.args in
    let kept = ap length c.set_bit.ensures ∙ length-set_bit a.image.now c.place64-at.result a.posted.vector in
    let w = whole (goal.at.set_bit-requires-then-is_some c).After-place64-at in
    omega (arith, kept, w)
