use Rattle.std.proofs.Common.{sym, arith}
use Rattle.image.proofs.Spans.{no-window}
use Rattle.image.proofs.entries.first_span.Goals as goal

pub returns-then-windows-lt3 : goal.returns-then-windows-lt3
returns-then-windows-lt3 c =
    let s = c in
    sym (no-window s.args.windows.now (omega arith) s.requires)
