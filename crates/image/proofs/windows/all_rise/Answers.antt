use Rattle.std.proofs.Common.{◌≡◌, drop, sym, ◌∙◌, arith}
use Rattle.image.specs.Windows.{windows_of}
use Rattle.image.specs.WindowRow.{rising}
use Rattle.image.proofs.WindowRows.{rising-stop-at, rising-go-at, rising-last-at, rising-pair, row-part-at}
use Rattle.image.proofs.windows.all_rise.Goals.{Else-not-ends_before, Else-not-ends_before-2}
use Rattle.image.proofs.windows.all_rise.Goals as goal

past-0 : (c : Else-not-ends_before) → let a = c.args in
    rising (windows_of (drop 3 a.windows.now)) ≡ rising (windows_of a.windows.now)
past-0 c =
    let a = c.args in
    rising-go-at a.windows.now 0 (omega arith) (sym c.ends_before.ensures ∙ c.if-not-ends_before.false)

past-3 : (c : Else-not-ends_before-2) → let a = c.args in
    rising (windows_of (drop 6 a.windows.now)) ≡ rising (windows_of a.windows.now)
past-3 c =
    let a = c.args in
    rising-go-at a.windows.now 3 (omega arith) (sym c.ends_before-2.ensures ∙ c.if-not-ends_before-2.false)
    ∙ rising-go-at a.windows.now 0 (omega arith) (sym c.ends_before.ensures ∙ c.if-not-ends_before.false)

-- each part of the run ends within the run
pub ends_before-requires : goal.ends_before-requires
ends_before-requires c =
    let s = c in
    let part = row-part-at s.args.windows.now 0 s.args.run (omega arith) s.requires.3 in
    (omega arith, omega arith, omega (arith, part.0))

pub ends_before-requires-2 : goal.ends_before-requires-2
ends_before-requires-2 c =
    let s = c in
    let part = row-part-at s.args.windows.now 0 s.args.run (omega arith) s.requires.3 in
    let next = row-part-at s.args.windows.now 3 s.args.run (omega arith) part.1 in
    (omega arith, omega arith, omega (arith, next.0))

pub ends_before-requires-3 : goal.ends_before-requires-3
ends_before-requires-3 c =
    let s = c in
    let part = row-part-at s.args.windows.now 0 s.args.run (omega arith) s.requires.3 in
    let next = row-part-at s.args.windows.now 3 s.args.run (omega arith) part.1 in
    let third = row-part-at s.args.windows.now 6 s.args.run (omega arith) next.1 in
    (omega arith, omega arith, omega (arith, third.0))

pub returns-then-count-lt6 : goal.returns-then-count-lt6
returns-then-count-lt6 c = let a = c.args in rising-last-at a.windows.now 0 (omega arith)

pub returns-then-not-ends_before : goal.returns-then-not-ends_before
returns-then-not-ends_before c =
    let a = c.args in
    rising-stop-at a.windows.now 0 (omega arith) (sym c.ends_before.ensures ∙ c.if-not-ends_before.true)

pub returns-then-count-lt9 : goal.returns-then-count-lt9
returns-then-count-lt9 c =
    let k = c in
    let a = k.args in
    rising-last-at a.windows.now 3 (omega arith) ∙ past-0 (goal.at.returns-then-count-lt9 c).Else-not-ends_before

pub returns-then-not-ends_before-2 : goal.returns-then-not-ends_before-2
returns-then-not-ends_before-2 c =
    let k = c in
    let a = k.args in
    rising-stop-at a.windows.now 3 (omega arith) (sym c.ends_before-2.ensures ∙ c.if-not-ends_before-2.true) ∙ past-0 (goal.at.returns-then-not-ends_before-2 c).Else-not-ends_before

pub returns-then-count-lt12 : goal.returns-then-count-lt12
returns-then-count-lt12 c =
    let k = c in
    let a = k.args in
    rising-last-at a.windows.now 6 (omega arith) ∙ past-3 (goal.at.returns-then-count-lt12 c).Else-not-ends_before-2

pub returns : goal.returns
returns c =
    let k = c in
    let a = k.args in
    c.ends_before-3.ensures ∙ rising-pair a.windows.now 6 (omega arith) ∙ past-3 (goal.at.returns c).Else-not-ends_before-2
