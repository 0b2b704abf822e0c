use Prim.Native.Nat.{◌≤◌, ◌<◌}
use mathlib.Core.Path.{◌≡◌}
use lib.ListN.{length}
use Rattle.places.specs.Layout.{words, head_of}
use Rattle.places.specs.Changes.{sifted}
use Rattle.places.proofs.sift.Given as goal

-- What is left to sift of the state now makes of it what sifting makes of the state at entry.
abbrev pub invariant-loop-n : goal.invariant-loop-n
invariant-loop-n l =
    (length l.state ≡ words) × (l.newest < 64) × (l.n ≤ 64) × (sifted l.domain l.newest l.n l.state ≡ sifted l.domain (head_of l.initial.state) 64 l.initial.state)
