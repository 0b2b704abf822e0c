use Rattle.std.proofs.Common.{◌≡◌, ◌+◌, ◌-◌, ◌<◌, ◌≤◌, min, length, arith}
use Rattle.image.specs.Spans.{window_by}
use Rattle.image.specs.Windows.{end_of, page_from}
use Rattle.image.proofs.GoodWindows.{held, good-window}
use Rattle.image.proofs.entries.table_page.Goals.{After-place_in-from}
use Rattle.image.proofs.entries.table_page.Goals as goal

-- the part that the window has from the table's first byte on lies in the run
inside : (c : After-place_in-from) → let a = c.args in
    (c.place_in-from.result + (a.span.size - (a.table - a.span.start)) ≤ length a.image.now)
    × (a.span.start ≤ a.table) × (a.table < end_of (window_by a.span))
inside c =
    let s = c in
    let a = s.args in
    let g = good-window (window_by a.span) (length a.image.now) s.requires.0 in
    let lies = held (window_by a.span) 1 a.table s.requires.1 in
    (omega (arith, g.in_run, lies.0, lies.1), lies.0, omega (arith, lies.1))

pub place_in-from-requires : goal.place_in-from-requires
place_in-from-requires c =
    let s = c in
    let g = good-window (window_by s.args.span) (length s.args.image.now) s.requires.0 in
    (s.requires.1, omega (arith, g.in_run))

pub overflow_sub-left : goal.overflow_sub-left
overflow_sub-left c = (inside (goal.at.overflow_sub-left c).After-place_in-from).1

pub overflow_sub-left-2 : goal.overflow_sub-left-2
overflow_sub-left-2 c = let fits = inside (goal.at.overflow_sub-left-2 c).After-place_in-from in omega (arith, fits.1, fits.2)

pub overflow_add-result : goal.overflow_add-result
overflow_add-result c = let fits = inside (goal.at.overflow_add-result c).After-place_in-from in omega (arith, fits.0)

pub slice_bounds-result-end : goal.slice_bounds-result-end
slice_bounds-result-end c = let fits = inside (goal.at.slice_bounds-result-end c).After-place_in-from in omega (arith, fits.0)

pub returns-then-left-ge4096 : goal.returns-then-left-ge4096
unfolding page_from
returns-then-left-ge4096 c =
    let k = c in
    let a = k.args in
    let fits = inside (goal.at.returns-then-left-ge4096 c).After-place_in-from in
    let all : (k.place_in-from.result + 4096) - k.place_in-from.result ≡ min 4096 (end_of (window_by a.span) - a.table) = omega (arith, fits.1, fits.2) in
    rw (all, k.place_in-from.ensures)

pub overflow_add-result-2 : goal.overflow_add-result-2
overflow_add-result-2 c = let fits = inside (goal.at.overflow_add-result-2 c).After-place_in-from in omega (arith, fits.0)

pub slice_bounds-result-end-2 : goal.slice_bounds-result-end-2
slice_bounds-result-end-2 c = let fits = inside (goal.at.slice_bounds-result-end-2 c).After-place_in-from in omega (arith, fits.0)

pub returns : goal.returns
unfolding page_from
returns c =
    let k = c in
    let a = k.args in
    let fits = inside (goal.at.returns c).After-place_in-from in
    let left = a.span.size - (a.table - a.span.start) in
    let all : (k.place_in-from.result + left) - k.place_in-from.result ≡ min 4096 (end_of (window_by a.span) - a.table) = omega (arith, fits.1, fits.2) in
    rw (all, k.place_in-from.ensures)
