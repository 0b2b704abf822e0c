use Prim.Native.Nat.{◌≤◌}
use mathlib.Core.Path.{◌≡◌, sym, ◌∙◌}
use mathlib.Core.Bool.{true}
use native.Mathlib.Omega.{arith}
use lib.ListN.{length}
use Rattle.blocks.specs.Block.{count, framed}
use Rattle.blocks.proofs.Frames.{framed-length, framed-head, headed-few}
use Rattle.trace.proofs.Tests.{unframed, by_entries}
use Rattle.trace.proofs.is_well_laid.Goals.{Else-not-is_framed}
use Rattle.trace.proofs.is_well_laid.Goals as goal

pub returns-then-not-is_framed : goal.returns-then-not-is_framed
returns-then-not-is_framed c =
    let a = c.args in
    unframed a.block.now a.place (sym c.is_framed.ensures ∙ c.if-not-is_framed.true)

is_framed : (c : Else-not-is_framed) → framed c.args.block.now c.args.place ≡ true
is_framed c = sym c.is_framed.ensures ∙ c.if-not-is_framed.false

whole : (c : Else-not-is_framed) → length c.args.block.now ≡ 512
whole c = framed-length c.args.block.now c.args.place (is_framed c)

few : (c : Else-not-is_framed) → count c.args.block.now ≤ 15
few c =
    let a = c.args in
    headed-few a.block.now a.place (framed-head a.block.now a.place (is_framed c))

pub bounds-block-1 : goal.bounds-block-1
bounds-block-1 c = omega (arith, whole (goal.at.bounds-block-1 c).Else-not-is_framed)

pub entries_well-requires : goal.entries_well-requires
entries_well-requires c = (
  omega (
    arith,
    whole (goal.at.entries_well-requires c).Else-not-is_framed,
    few (goal.at.entries_well-requires c).Else-not-is_framed,
  ),
  few (goal.at.entries_well-requires c).Else-not-is_framed,
)

pub returns : goal.returns
returns c =
    let a = c.args in
    c.entries_well.ensures ∙ by_entries a.block.now a.place (is_framed (goal.at.returns c).Else-not-is_framed)
