use Rattle.std.proofs.Common.{◌+◌, ◌^◌, ◌≤◌, sym, ◌∙◌, arith}
use Rattle.registers.proofs.Good.{good}
use Rattle.region.proofs.Tests.{in-width}
use Rattle.region.proofs.region.bad_region.Goals.{Else-past_width}
use Rattle.region.proofs.region.bad_region.Goals as goal

pub past_width-requires : goal.past_width-requires
past_width-requires c = (good c.args.registers c.requires).haw.most

-- the end is not past 2^52
ends : (x : Else-past_width) → x.args.area.start + x.args.area.size ≤ 2 ^ 52
ends x =
    let a = x.args in
    in-width a.registers.haw a.area.start a.area.size (good a.registers x.requires).haw.most (sym x.past_width.ensures ∙ x.if-past_width.false)

pub pages_shown-requires : goal.pages_shown-requires
pages_shown-requires c = omega (arith, ends (goal.at.pages_shown-requires c).Else-past_width)

pub shares_tables-requires : goal.shares_tables-requires
shares_tables-requires c =
    (c.requires, omega (arith, ends (goal.at.shares_tables-requires c).Else-past_width))
