use Rattle.std.proofs.Common.{sym, ◌∙◌}
use Rattle.image.proofs.WindowRows.{four-share}
use Rattle.image.proofs.windows.four_share.Goals as goal

pub returns-then-shares : goal.returns-then-shares
returns-then-shares c =
    let s = c in
    rw (sym c.shares.ensures ∙ c.if-shares.true) at (four-share s.args.windows.now s.requires)

pub returns-then-shares-2 : goal.returns-then-shares-2
returns-then-shares-2 c =
    let k1 = c in
    let s = k1 in
    rw (sym k1.shares.ensures ∙ k1.if-shares.false, sym c.shares-2.ensures ∙ c.if-shares-2.true) at (four-share s.args.windows.now s.requires)

pub returns-then-shares-3 : goal.returns-then-shares-3
returns-then-shares-3 c =
    let k2 = c in
    let k1 = k2 in
    let s = k1 in
    rw (sym k1.shares.ensures ∙ k1.if-shares.false, sym k2.shares-2.ensures ∙ k2.if-shares-2.false, sym c.shares-3.ensures ∙ c.if-shares-3.true) at (four-share s.args.windows.now s.requires)

pub returns : goal.returns
returns c =
    let k3 = c in
    let k2 = k3 in
    let k1 = k2 in
    let s = k1 in
    c.three_share.ensures
    ∙ (rw (sym k1.shares.ensures ∙ k1.if-shares.false, sym k2.shares-2.ensures ∙ k2.if-shares-2.false, sym k3.shares-3.ensures ∙ k3.if-shares-3.false) at (four-share s.args.windows.now s.requires))
