use Rattle.std.proofs.Common.{◌≡◌, ◌*◌, drop}
use Rattle.image.specs.Windows.{windows_of, spot_in}
use Rattle.region.proofs.spot.find_place.Given as goal

-- No window so far holds the bytes.
abbrev pub invariant-loop-n : goal.invariant-loop-n
invariant-loop-n l =
    spot_in (windows_of l.windows) l.size l.at ≡ spot_in (windows_of (drop (3 * l.n) l.windows)) l.size l.at
