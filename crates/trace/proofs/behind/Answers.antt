use mathlib.Core.Path.{◌∙◌}
use native.Mathlib.Omega.{arith}
use Rattle.trace.proofs.Tests.{same_block, other_block}
use Rattle.trace.proofs.behind.Goals as goal

pub returns-then-index-bytes : goal.returns-then-index-bytes
returns-then-index-bytes c =
    let a = c.args in
    same_block a.bytes.now a.place a.index c.if-index-bytes.true

pub returns : goal.returns
returns c =
    let a = c.args in
    c.next_block.ensures ∙ other_block a.bytes.now a.place a.index (omega arith)
