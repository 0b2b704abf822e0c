use Rattle.std.proofs.Common.{arith}
use Rattle.image.specs.Spans.{window_by}
use Rattle.image.proofs.GoodWindows.{one-test}
use Rattle.image.proofs.entries.contains.Goals as goal

pub returns : goal.returns
returns c =
    let k = c in
    let s = k in
    one-test (window_by s.args.span) s.args.at (omega arith) s.requires (omega arith) (omega arith)
