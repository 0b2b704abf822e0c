use Rattle.std.proofs.Common.{◌≡◌, drop, sym, ◌∙◌, arith}
use Rattle.image.specs.Windows.{windows_of}
use Rattle.image.specs.WindowRow.{bad_row}
use Rattle.image.proofs.WindowRows.{row-stop-at, row-go-at, row-last-at}
use Rattle.image.proofs.windows.bad_row.Goals.{Else-bad_next, Else-bad_next-2, Else-bad_next-3}
use Rattle.image.proofs.windows.bad_row.Goals as goal

-- what the windows behind those that passed tell, the whole row tells
past-0 : (c : Else-bad_next) → let a = c.args in
    bad_row (windows_of (drop 3 a.windows.now)) a.run ≡ bad_row (windows_of a.windows.now) a.run
past-0 c =
    let a = c.args in
    row-go-at a.windows.now 0 a.run (omega arith) (sym c.bad_next.ensures ∙ c.if-bad_next.false)

past-3 : (c : Else-bad_next-2) → let a = c.args in
    bad_row (windows_of (drop 6 a.windows.now)) a.run ≡ bad_row (windows_of a.windows.now) a.run
past-3 c =
    let a = c.args in
    row-go-at a.windows.now 3 a.run (omega arith) (sym c.bad_next-2.ensures ∙ c.if-bad_next-2.false)
    ∙ row-go-at a.windows.now 0 a.run (omega arith) (sym c.bad_next.ensures ∙ c.if-bad_next.false)

past-6 : (c : Else-bad_next-3) → let a = c.args in
    bad_row (windows_of (drop 9 a.windows.now)) a.run ≡ bad_row (windows_of a.windows.now) a.run
past-6 c =
    let a = c.args in
    row-go-at a.windows.now 6 a.run (omega arith) (sym c.bad_next-3.ensures ∙ c.if-bad_next-3.false)
    ∙ row-go-at a.windows.now 3 a.run (omega arith) (sym c.bad_next-2.ensures ∙ c.if-bad_next-2.false)
    ∙ row-go-at a.windows.now 0 a.run (omega arith) (sym c.bad_next.ensures ∙ c.if-bad_next.false)

pub returns-then-count-lt6 : goal.returns-then-count-lt6
returns-then-count-lt6 c =
    let a = c.args in
    c.bad_last.ensures ∙ row-last-at a.windows.now 0 a.run (omega arith)

pub returns-then-bad_next : goal.returns-then-bad_next
returns-then-bad_next c =
    let a = c.args in
    row-stop-at a.windows.now 0 a.run (omega arith) (sym c.bad_next.ensures ∙ c.if-bad_next.true)

pub returns-then-count-lt9 : goal.returns-then-count-lt9
returns-then-count-lt9 c =
    let k = c in
    let a = k.args in
    c.bad_last-then-count-lt9.ensures ∙ row-last-at a.windows.now 3 a.run (omega arith) ∙ past-0 (goal.at.returns-then-count-lt9 c).Else-bad_next

pub returns-then-bad_next-2 : goal.returns-then-bad_next-2
returns-then-bad_next-2 c =
    let k = c in
    let a = k.args in
    row-stop-at a.windows.now 3 a.run (omega arith) (sym c.bad_next-2.ensures ∙ c.if-bad_next-2.true) ∙ past-0 (goal.at.returns-then-bad_next-2 c).Else-bad_next

pub returns-then-count-lt12 : goal.returns-then-count-lt12
returns-then-count-lt12 c =
    let k = c in
    let a = k.args in
    c.bad_last-then-count-lt12.ensures ∙ row-last-at a.windows.now 6 a.run (omega arith) ∙ past-3 (goal.at.returns-then-count-lt12 c).Else-bad_next-2

pub returns-then-bad_next-3 : goal.returns-then-bad_next-3
returns-then-bad_next-3 c =
    let k = c in
    let a = k.args in
    row-stop-at a.windows.now 6 a.run (omega arith) (sym c.bad_next-3.ensures ∙ c.if-bad_next-3.true) ∙ past-3 (goal.at.returns-then-bad_next-3 c).Else-bad_next-2

pub returns : goal.returns
returns c =
    let k = c in
    let a = k.args in
    c.bad_last-2.ensures ∙ row-last-at a.windows.now 9 a.run (omega arith) ∙ past-6 (goal.at.returns c).Else-bad_next-3
