use Rattle.std.proofs.Common.{◌-◌, arith}
use Rattle.image.specs.Spans.{window_by}
use Rattle.image.specs.Windows.{end_of}
use Rattle.image.proofs.GoodWindows.{good-window}
use Rattle.image.proofs.WindowEntries.{holds-first, holds-room, holds-spot, lacks-spot}
use Rattle.image.proofs.entries.place_of.Goals as goal

pub place_in-requires : goal.place_in-requires
place_in-requires c =
    let a = c.args in
    let g = good-window (window_by c.in_ok-span.span) a.run c.in_ok-span.ensures.good in
    (holds-first a.windows.now a.run c.requires.0.0 a.at a.more c.requires.1 c.in_ok-span.ensures, omega (arith, g.in_run))

pub returns-in_err-span : goal.returns-in_err-span
returns-in_err-span c =
    let a = c.args in
    rw c.from_residual.ensures (lacks-spot a.windows.now a.run c.requires.0.0 a.at a.more c.requires.1 c.in_err-span.ensures)

pub returns : goal.returns
returns c =
    let a = c.args in
    let w = window_by c.in_ok-span.span in
    record {
      left = end_of w - a.at;
      spot = rw c.place_in.ensures (holds-spot a.windows.now a.run c.requires.0.0 a.at a.more c.requires.1 c.in_ok-span.ensures);
      in_run = omega (arith, c.place_in.ensures, holds-room a.windows.now a.run c.requires.0.0 a.at a.more c.requires.1 c.in_ok-span.ensures);
    }
