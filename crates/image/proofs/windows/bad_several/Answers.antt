use Rattle.std.proofs.Common.{◌≡◌, ◌%◌, ◌≤◌, length, sym, ◌∙◌, arith}
use Rattle.image.proofs.WindowRows.{none-bad, counts-badly, few-threes, row-tells, rising-tells, sharing-tells}
use Rattle.image.proofs.windows.bad_several.Goals.{Else-bad_count}
use Rattle.image.proofs.windows.bad_several.Goals as goal

-- none to four windows
few : (c : Else-bad_count) → let l = length c.args.windows.now in (l ≤ 12) × (l % 3 ≡ 0)
few c = few-threes (length c.args.windows.now) (sym c.bad_count.ensures ∙ c.if-bad_count.false)

pub returns-then-bad_count : goal.returns-then-bad_count
returns-then-bad_count c = let a = c.args in counts-badly a.windows.now a.run (sym c.bad_count.ensures ∙ c.if-bad_count.true)

pub returns-then-count-eq0 : goal.returns-then-count-eq0
returns-then-count-eq0 c = let a = c.args in none-bad a.windows.now a.run (omega arith)

pub bad_row-requires : goal.bad_row-requires
bad_row-requires c = let f = few (goal.at.bad_row-requires c).Else-bad_count in (omega (arith, f.1), f.0, f.1)

pub returns-then-bad_row : goal.returns-then-bad_row
returns-then-bad_row c =
    let a = c.args in
    let f = few (goal.at.returns-then-bad_row c).Else-bad_count in
    row-tells a.windows.now a.run f.0 f.1 (sym c.bad_row.ensures ∙ c.if-bad_row.true)

pub all_rise-requires : goal.all_rise-requires
all_rise-requires c =
    let f = few (goal.at.all_rise-requires c).Else-bad_count in
    (omega (arith, f.1), f.0, f.1, sym c.bad_row.ensures ∙ c.if-bad_row.false)

pub returns-then-all_rise : goal.returns-then-all_rise
returns-then-all_rise c =
    let k = c in
    let a = k.args in
    let f = few (goal.at.returns-then-all_rise c).Else-bad_count in
    rising-tells a.windows.now a.run f.0 f.1 (sym k.bad_row.ensures ∙ k.if-bad_row.false)
    (sym c.all_rise.ensures ∙ c.if-all_rise.true)

pub any_share-requires : goal.any_share-requires
any_share-requires c = let f = few (goal.at.any_share-requires c).Else-bad_count in (omega (arith, f.1), f.0, f.1)

pub returns : goal.returns
returns c =
    let k = c in
    let a = k.args in
    let f = few (goal.at.returns c).Else-bad_count in
    c.any_share.ensures
    ∙ sharing-tells a.windows.now a.run f.0 f.1 (sym k.bad_row.ensures ∙ k.if-bad_row.false)
