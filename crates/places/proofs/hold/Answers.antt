use Prim.Native.Nat.{ℕ}
use mathlib.Core.List.{List}
use mathlib.Core.Path.{ap, ◌∙◌}
use Rattle.places.specs.Changes.{before_of, linked, filled, holding}
use Rattle.places.proofs.hold.Goals as goal

pub returns : goal.returns
unfolding holding
returns c =
    let a = c.args in
    let p = before_of a.state.now in
    c.fill.ensures
    ∙ ap (λ (s : List ℕ). filled s a.key a.frame a.domain p)
    (c.link.ensures
    ∙ ap (λ (s : List ℕ). linked s a.key p) c.release.ensures)
