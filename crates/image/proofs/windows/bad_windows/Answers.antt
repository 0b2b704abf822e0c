use Rattle.std.proofs.Common.{◌∙◌, arith}
use Rattle.image.proofs.WindowRows.{one-tells}
use Rattle.image.proofs.windows.bad_windows.Goals as goal

pub returns-then-windows-eq3 : goal.returns-then-windows-eq3
returns-then-windows-eq3 c =
    let a = c.args in
    c.bad_last.ensures ∙ one-tells a.windows.now a.run (omega arith)

pub returns : goal.returns
returns c = c.bad_several.ensures
