use mathlib.Core.Path.{refl, ap, ◌∙◌}
use native.Mathlib.Omega.{arith}
use lib.ListN.{take}
use lib.Seq.{take_all, length-take-le}
use Rattle.blocks.specs.Block.{weighed}
use Rattle.blocks.proofs.Sums.{sum-next, small_product}
use Rattle.blocks.proofs.sum.Goals as goal

pub loop-i-init : goal.loop-i-init
unfolding weighed
loop-i-init c = (refl, omega arith)

pub overflow_mul-sum : goal.overflow_mul-sum
overflow_mul-sum c =
    let sized = length-take-le 508 c.args.block.now c.requires in
    let small = small_product {b = c.from.result} {i = c.loop-i.i} (omega arith) (omega arith) in
    omega arith

pub overflow_add-sum-in-loop-i : goal.overflow_add-sum-in-loop-i
overflow_add-sum-in-loop-i c =
    let sized = length-take-le 508 c.args.block.now c.requires in
    let small = small_product {b = c.from.result} {i = c.loop-i.i} (omega arith) (omega arith) in
    omega arith

pub loop-i-preserved : goal.loop-i-preserved
loop-i-preserved c =
    let sized = length-take-le 508 c.args.block.now c.requires in
    let small = small_product {b = c.from.result} {i = c.loop-i.i} (omega arith) (omega arith) in
    (sum-next (take 508 c.args.block.now) c.loop-i.i c.loop-i-test.true c.loop-i.invariant.0 c.from.ensures, omega arith)

pub returns : goal.returns
returns c = c.loop-i.invariant.0 ∙ ap (weighed 0) (take_all c.loop-i.i (take 508 c.args.block.now) (omega arith))
