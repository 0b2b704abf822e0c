use Rattle.std.proofs.Common.{◌≡◌, ℕ, ◌+◌, ◌*◌, drop, ap, sym, ◌∙◌, arith}
use Rattle.image.specs.Windows.{windows_of, window_at, spot_in}
use Rattle.image.proofs.GoodWindows.{good-at, held, spot-at, spot-after, spot-none-left}
use Rattle.region.specs.Copy.{place_shown}
use Rattle.region.proofs.spot.find_place.Goals as goal

pub returns-then-holds_all : goal.returns-then-holds_all
returns-then-holds_all c =
    let n = c.loop-n.n in
    let found = c.loop-n.invariant ∙ spot-at c.args.windows.now c.args.size c.args.at (3 * n) (omega (arith, c.loop-n-test.true)) (sym c.holds_all.ensures ∙ c.if-holds_all.true) in
    sym (ap place_shown found)

pub loop-n-preserved : goal.loop-n-preserved
loop-n-preserved c =
    let a = c.args in
    let k = c.loop-n.n in
    let next : 3 * k + 3 ≡ 3 * (k + 1) = omega arith in
    c.loop-n.invariant
    ∙ spot-after a.windows.now a.size a.at (3 * k) (omega (arith, c.loop-n-test.true)) (sym c.holds_all.ensures ∙ c.if-holds_all.false)
    ∙ ap (λ (x : ℕ). spot_in (windows_of (drop x a.windows.now)) a.size a.at) next

pub returns : goal.returns
returns c =
    let a = c.args in
    let k = c.loop-n.n in
    sym (ap place_shown (c.loop-n.invariant ∙ spot-none-left a.windows.now a.size a.at (3 * k) (omega (arith, c.loop-n-test.false))))

pub overflow_add-result-then-holds_all : goal.overflow_add-result-then-holds_all
overflow_add-result-then-holds_all c =
    let n = c.loop-n.n in
    let w = window_at c.args.windows.now (3 * n) in
    let lies = held w c.args.size c.args.at (sym c.holds_all.ensures ∙ c.if-holds_all.true) in
    let inside = (good-at c.args.windows.now c.args.run c.requires n (omega (arith, c.loop-n-test.true))).in_run in
    omega (arith, lies.0, lies.1, inside, c.ranges.run)
