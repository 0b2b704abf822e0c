use Prim.Native.Nat.{◌<◌, ◌^◌}
use mathlib.Core.Path.{sym, ◌∙◌}
use native.Mathlib.Omega.{arith}
use lib.Dec.{lit<}
use Rattle.image.proofs.Fields.{low_field, high-whole, whole}
use Rattle.pasid.proofs.root.half_of.Goals as goal

pub returns-then-upper : goal.returns-then-upper
returns-then-upper c =
    let e = c.args.e in
    let low : e.low < 2 ^ 64 = omega arith in
    let high : e.high < 2 ^ 64 = omega arith in
    rw c.if-upper.true (sym (high-whole low high))

pub returns : goal.returns
returns c =
    let e = c.args.e in
    let low : e.low < 2 ^ 64 = omega arith in
    let high : e.high < 2 ^ 64 = omega arith in
    rw c.if-upper.false (sym (low_field low high 63 0 (lit< tt) ∙ whole e.low 63 low))
