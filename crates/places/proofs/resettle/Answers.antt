use Prim.Native.Nat.{◌+◌}
use mathlib.Core.Path.{ap, ◌∙◌}
use lib.ListN.{length, length-set, set}
use Rattle.places.proofs.Lengths.{length-holding}
use Rattle.places.specs.Changes.{resettled, freed}
use Rattle.places.proofs.resettle.Goals as goal

pub returns-then-key-its : goal.returns-then-key-its
unfolding resettled freed
returns-then-key-its c = rw c.if-key-its.true

pub shape_of-state : goal.shape_of-state
shape_of-state c =
    let a = c.args in
    let was = a.state.now in
    ap length c.hold.ensures ∙ length-holding (set was (8 + a.place) 0) _ _ _ ∙ length-set was (8 + a.place) 0

pub returns : goal.returns
unfolding resettled freed
returns c = rw c.if-key-its.false c.hold.ensures
