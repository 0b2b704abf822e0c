use Rattle.std.proofs.Common.{◌≡◌, drop, sym, ◌∙◌, arith}
use Rattle.image.specs.Windows.{windows_of, spot_in}
use Rattle.image.proofs.GoodWindows.{three-each, spot-none-left}
use Rattle.image.proofs.Spans.{spanned, spanned-top, passed-by, among}
use Rattle.image.proofs.entries.later_window.Goals.{Else-contains, Else-contains-2, Else-contains-3}
use Rattle.image.proofs.entries.later_window.Goals as goal

-- what the windows behind those that don't hold the byte show, all of them show
past-3 : (c : Else-contains) → let a = c.args in
    spot_in (windows_of (drop 3 a.windows.now)) 1 a.at ≡ spot_in (windows_of (drop 6 a.windows.now)) 1 a.at
past-3 c =
    let a = c.args in
    passed-by a.windows.now a.at 3 (omega arith) c.span_at-second.ensures (sym c.contains.ensures ∙ c.if-contains.false)

past-6 : (c : Else-contains-2) → let a = c.args in
    spot_in (windows_of (drop 3 a.windows.now)) 1 a.at ≡ spot_in (windows_of (drop 9 a.windows.now)) 1 a.at
past-6 c =
    let a = c.args in
    passed-by a.windows.now a.at 3 (omega arith) c.span_at-second.ensures (sym c.contains.ensures ∙ c.if-contains.false)
    ∙ passed-by a.windows.now a.at 6 (omega arith) c.span_at-third.ensures (sym c.contains-2.ensures ∙ c.if-contains-2.false)

past-9 : (c : Else-contains-3) → let a = c.args in
    spot_in (windows_of (drop 3 a.windows.now)) 1 a.at ≡ spot_in (windows_of (drop 12 a.windows.now)) 1 a.at
past-9 c =
    let a = c.args in
    passed-by a.windows.now a.at 3 (omega arith) c.span_at-second.ensures (sym c.contains.ensures ∙ c.if-contains.false)
    ∙ passed-by a.windows.now a.at 6 (omega arith) c.span_at-third.ensures (sym c.contains-2.ensures ∙ c.if-contains-2.false)
    ∙ passed-by a.windows.now a.at 9 (omega arith) c.span_at-fourth.ensures (sym c.contains-3.ensures ∙ c.if-contains-3.false)

pub returns-then-count-lt6 : goal.returns-then-count-lt6
returns-then-count-lt6 c =
    let a = c.args in
    spot-none-left a.windows.now 1 a.at 3 (omega arith)

pub contains-requires : goal.contains-requires
contains-requires c =
    let s = c in
    spanned-top s.args.windows.now s.args.run s.requires 1 (omega arith) c.span_at-second.ensures

pub returns-then-contains : goal.returns-then-contains
returns-then-contains c =
    let k = c in
    let s = k in
    spanned s.args.windows.now s.args.run s.requires 1 s.args.at (omega arith) k.span_at-second.ensures (sym c.contains.ensures ∙ c.if-contains.true)

pub returns-then-count-lt9 : goal.returns-then-count-lt9
returns-then-count-lt9 c =
    let k = c in
    let a = k.args in
    past-3 (goal.at.returns-then-count-lt9 c).Else-contains ∙ spot-none-left a.windows.now 1 a.at 6 (omega arith)

pub contains-requires-2 : goal.contains-requires-2
contains-requires-2 c =
    let s = c in
    spanned-top s.args.windows.now s.args.run s.requires 2 (omega arith) c.span_at-third.ensures

pub returns-then-contains-2 : goal.returns-then-contains-2
returns-then-contains-2 c =
    let k = c in
    let s = k in
    among (past-3 (goal.at.returns-then-contains-2 c).Else-contains)
    (spanned s.args.windows.now s.args.run s.requires 2 s.args.at (omega arith) k.span_at-third.ensures (sym c.contains-2.ensures ∙ c.if-contains-2.true))

pub returns-then-count-lt12 : goal.returns-then-count-lt12
returns-then-count-lt12 c =
    let k = c in
    let a = k.args in
    past-6 (goal.at.returns-then-count-lt12 c).Else-contains-2 ∙ spot-none-left a.windows.now 1 a.at 9 (omega arith)

pub contains-requires-3 : goal.contains-requires-3
contains-requires-3 c =
    let s = c in
    spanned-top s.args.windows.now s.args.run s.requires 3 (omega arith) c.span_at-fourth.ensures

pub returns-then-contains-3 : goal.returns-then-contains-3
returns-then-contains-3 c =
    let k = c in
    let s = k in
    among (past-6 (goal.at.returns-then-contains-3 c).Else-contains-2)
    (spanned s.args.windows.now s.args.run s.requires 3 s.args.at (omega arith) k.span_at-fourth.ensures (sym c.contains-3.ensures ∙ c.if-contains-3.true))

pub returns : goal.returns
returns c =
    let s = c in
    past-9 (goal.at.returns c).Else-contains-3 ∙ spot-none-left s.args.windows.now 1 s.args.at 12 (omega (arith, (three-each s.args.windows.now s.args.run s.requires).0))
