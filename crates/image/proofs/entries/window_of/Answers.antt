use Rattle.std.proofs.Common.{drop, sym, ◌∙◌}
use Rattle.image.specs.Windows.{windows_of}
use Rattle.image.proofs.Spans.{first-top, first-held, first_past, held-among}
use Rattle.image.proofs.entries.window_of.Goals as goal

pub contains-requires : goal.contains-requires
contains-requires c =
    let s = c in
    first-top s.args.first s.args.windows.now s.args.run s.requires

pub returns-then-contains : goal.returns-then-contains
returns-then-contains c =
    let s = c in
    first-held s.args.first s.args.windows.now s.args.run s.requires s.args.at (sym c.contains.ensures ∙ c.if-contains.true)

pub returns : goal.returns
returns c =
    let k = c in
    let s = k in
    held-among c.later_window.result (windows_of s.args.windows.now) (windows_of (drop 3 s.args.windows.now)) s.args.run s.args.at
    (first_past s.args.first s.args.windows.now s.args.run s.requires s.args.at (sym k.contains.ensures ∙ k.if-contains.false))
    c.later_window.ensures
