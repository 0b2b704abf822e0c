use Prim.Native.Nat.{ℕ, ◌+◌, ◌-◌, ◌^◌}
use mathlib.Core.Path.{ap, sym, ◌∙◌}
use native.Mathlib.Omega.{arith}
use borrow.Author.Tests.{lt-ltb}
use lib.Dec.{ltb}
use Rattle.image.proofs.Fields.{shifted_one}
use Rattle.region.proofs.Tests.{past}
use Rattle.region.proofs.region.past_width.Goals as goal

pub returns-then-limit-area : goal.returns-then-limit-area
returns-then-limit-area c =
    let a = c.args in
    let is = shifted_one a.haw (omega (arith, c.requires)) in
    sym (lt-ltb (2 ^ a.haw) (a.area.start + a.area.size) (omega (arith, is, c.if-limit-area.true)))

pub returns : goal.returns
returns c =
    let a = c.args in
    let is = shifted_one a.haw (omega (arith, c.requires)) in
    ap (λ (limit : ℕ). ltb (limit - a.area.start) a.area.size) is ∙ past (2 ^ a.haw) a.area.start a.area.size (omega (arith, is, c.if-limit-area.false))
