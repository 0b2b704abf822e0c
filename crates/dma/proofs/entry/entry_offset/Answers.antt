use Prim.Native.Nat.{ℕ, ◌*◌}
use mathlib.Core.Path.{ap}
use native.Mathlib.Omega.{arith}
use Rattle.dma.proofs.Steps.{index_of, index-lt}
use Rattle.dma.proofs.entry.entry_offset.Goals as goal

pub overflow_mul-result-2 : goal.overflow_mul-result-2
overflow_mul-result-2 c = omega (arith, index_of c.args.address c.args.below, index-lt c.args.address c.args.below)

pub returns : goal.returns
returns c =
    let is = index_of c.args.address c.args.below in
    (ap (λ (i : ℕ). 8 * i) is, omega (arith, is, index-lt c.args.address c.args.below))
