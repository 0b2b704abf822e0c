use mathlib.Core.Path.{sym, ◌∙◌}
use native.Mathlib.Omega.{arith}
use Rattle.blocks.proofs.Frames.{headed-few}
use Rattle.blocks.proofs.is_framed.Goals as goal

pub overflow_add-from : goal.overflow_add-from
overflow_add-from c = omega (arith, headed-few c.args.block.now c.args.place (sym c.is_headed.ensures ∙ c.if-not-is_headed.false))

pub slice_bounds-blank-count : goal.slice_bounds-blank-count
slice_bounds-blank-count c = omega (arith, headed-few c.args.block.now c.args.place (sym c.is_headed.ensures ∙ c.if-not-is_headed.false))

pub slice_bounds-blank-start : goal.slice_bounds-blank-start
slice_bounds-blank-start c = omega (arith, headed-few c.args.block.now c.args.place (sym c.is_headed.ensures ∙ c.if-not-is_headed.false))
