use Prim.Native.Nat.{◌<◌, ◌^◌}
use mathlib.Core.List.{[], ◌∷◌}
use native.Mathlib.Omega.{arith}
use lib.Dec.{lit<}
use Rattle.registers.proofs.Powers.{from-bit}
use Rattle.image.proofs.Fields.{in-first}
use Rattle.pasid.specs.Context.{context_reserved}
use Rattle.pasid.proofs.context.context_reserved.Goals as goal

pub returns : goal.returns
unfolding context_reserved
returns c =
    let s = c in
    let e = s.args.e in
    let low : e.w0 < 2 ^ 64 = omega arith in
    rw (in-first (e.w1 ∷ e.w2 ∷ e.w3 ∷ e.w4 ∷ e.w5 ∷ e.w6 ∷ e.w7 ∷ []) low 63 s.args.haw (lit< tt), from-bit s.args.haw low, c.any_set.ensures, c.at_or_above_power.ensures, c.upper_set.ensures)
