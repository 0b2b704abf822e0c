use Rattle.std.proofs.Common.{◌≡◌, ◌+◌, ◌%◌, ◌^◌, mod-eq_of_lt}
use Rattle.image.specs.Windows.{window_at}
use Rattle.image.proofs.windows.ends_before.Goals as goal

pub returns : goal.returns
returns c =
    let w = window_at c.args.windows.now c.args.i in
    let whole : (w.place + w.size) % 2 ^ 64 ≡ w.place + w.size = mod-eq_of_lt c.requires.2 in
    rw whole
