use Prim.Native.Nat.{◌<◌, ◌^◌}
use mathlib.Core.List.{[], ◌∷◌}
use native.Mathlib.Omega.{arith}
use lib.Dec.{lit<}
use Rattle.image.proofs.Fields.{in-first}
use Rattle.pasid.proofs.context.context_of.Goals as goal

pub returns : goal.returns
returns c =
    let e = c.args.e in
    let low : e.w0 < 2 ^ 64 = omega arith in
    rw (in-first (e.w1 ∷ e.w2 ∷ e.w3 ∷ e.w4 ∷ e.w5 ∷ e.w6 ∷ e.w7 ∷ []) low 63 12 (lit< tt), c.in_place.ensures, c.pasid_of.ensures, c.bit.ensures, c.bit-2.ensures)
