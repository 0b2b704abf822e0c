-- No change alters the length of the state.
use Prim.Native.Nat.{ℕ, ◌+◌}
use mathlib.Core.List.{List}
use mathlib.Core.Path.{◌≡◌, ◌∙◌}
use lib.ListN.{length, length-set}
use Rattle.places.specs.Layout.{key_in, bucket_of}
use Rattle.places.specs.Changes.{before_of, released, linked, filled, holding, freed}

pub length-released : (state : List ℕ) (place : ℕ) → length (released state place) ≡ length state
unfolding released
length-released state place = length-set state (264 + bucket_of (key_in state place)) _

pub length-linked : (state : List ℕ) (key place : ℕ) → length (linked state key place) ≡ length state
unfolding linked
length-linked state key place = simp length-set

pub length-filled : (state : List ℕ) (key frame domain place : ℕ) → length (filled state key frame domain place) ≡ length state
unfolding filled
length-filled state key frame domain place = simp length-set

pub length-holding : (state : List ℕ) (key frame domain : ℕ) → length (holding state key frame domain) ≡ length state
unfolding holding
length-holding state key frame domain =
    let p = before_of state in
    length-filled (linked (released state p) key p) key frame domain p ∙ length-linked (released state p) key p ∙ length-released state p

pub length-freed : (state : List ℕ) (place : ℕ) → length (freed state place) ≡ length state
unfolding freed
length-freed state place = length-set state (8 + place) 0
