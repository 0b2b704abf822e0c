use Rattle.std.proofs.Common.{refl, arith}
use Rattle.image.specs.Spans.{window_by}
use Rattle.image.proofs.GoodWindows.{one-sum}
use Rattle.image.proofs.entries.place_in.Goals as goal

pub returns : goal.returns
returns c =
    let s = c in
    one-sum (window_by s.args.span) s.args.at (omega arith) (omega arith) s.requires.1 s.requires.0 refl (omega arith) refl
