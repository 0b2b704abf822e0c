use Prim.Native.Nat.{◌≤◌, ◌<◌, ◌-◌}
use mathlib.Core.Path.{◌≡◌}
use lib.ListN.{length}
use Rattle.places.specs.Layout.{words}
use Rattle.places.specs.Chain.{chained, first_age}
use Rattle.places.proofs.first_age.Given as goal

-- What is left of the chain finds what the whole chain finds.
abbrev pub invariant-loop-place : goal.invariant-loop-place
invariant-loop-place l =
    (length l.state ≡ words) × (l.head < 64) × (l.least ≤ 64) × (chained l.state l.key (64 - l.least) l.least l.place ≡ first_age l.state l.key)

abbrev pub decreases-loop-place : goal.decreases-loop-place
decreases-loop-place l = 64 - l.least
