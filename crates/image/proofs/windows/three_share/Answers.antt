use Rattle.std.proofs.Common.{sym, ◌∙◌}
use Rattle.image.proofs.WindowRows.{three-share}
use Rattle.image.proofs.windows.three_share.Goals as goal

pub returns-then-shares : goal.returns-then-shares
returns-then-shares c =
    let s = c in
    rw (sym c.shares.ensures ∙ c.if-shares.true) at (three-share s.args.windows.now s.args.i s.requires)

pub returns-then-shares-2 : goal.returns-then-shares-2
returns-then-shares-2 c =
    let k = c in
    let s = k in
    rw (sym k.shares.ensures ∙ k.if-shares.false, sym c.shares-2.ensures ∙ c.if-shares-2.true) at (three-share s.args.windows.now s.args.i s.requires)

pub returns : goal.returns
returns c =
    let k2 = c in
    let k = k2 in
    let s = k in
    c.shares-3.ensures
    ∙ (rw (sym k.shares.ensures ∙ k.if-shares.false, sym k2.shares-2.ensures ∙ k2.if-shares-2.false) at (three-share s.args.windows.now s.args.i s.requires))
