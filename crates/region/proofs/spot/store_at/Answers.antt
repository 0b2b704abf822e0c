use Rattle.std.proofs.Common.{sym, ◌∙◌}
use Rattle.image.specs.Windows.{spot_in, windows_of}
use Rattle.region.specs.Copy.{stored_at}
use Rattle.region.proofs.Turns.{stored_there, not_stored}
use Rattle.region.proofs.spot.store_at.Goals as goal

pub returns-in-Some : goal.returns-in-Some
unfolding stored_at
returns-in-Some c =
    let a = c.args in
    c.store8.ensures ∙ stored_there (spot_in (windows_of a.windows.now) 8 a.at) a.word a.image.now (sym c.in-Some.is ∙ c.find_place.ensures)

pub returns-in_default : goal.returns-in_default
unfolding stored_at
returns-in_default c =
    let a = c.args in
    not_stored (spot_in (windows_of a.windows.now) 8 a.at) a.word a.image.now (sym c.in_default.is ∙ c.find_place.ensures)
