use mathlib.Core.Path.{◌∙◌}
use native.Mathlib.Omega.{arith}
use Rattle.trace.proofs.Tests.{shut-many, shut-short, open-later, judged}
use Rattle.trace.proofs.is_shut.Goals as goal

pub returns-then-index-ge15 : goal.returns-then-index-ge15
returns-then-index-ge15 c =
    let a = c.args in
    shut-many a.bytes.now a.place a.index c.if-index-ge15.true

pub returns-then-bytes-place : goal.returns-then-bytes-place
returns-then-bytes-place c =
    let a = c.args in
    shut-short a.bytes.now a.place a.index (omega arith) c.if-bytes-place.true

pub returns-then-index-ne0 : goal.returns-then-index-ne0
returns-then-index-ne0 c =
    let a = c.args in
    open-later a.bytes.now a.place a.index (omega arith) (omega arith) c.if-index-ne0.true

pub returns : goal.returns
returns c =
    let a = c.args in
    c.is_damaged.ensures ∙ judged a.bytes.now a.place a.index (omega arith) (omega arith) c.if-index-ne0.false
