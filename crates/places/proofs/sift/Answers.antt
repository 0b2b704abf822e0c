use Prim.Native.Nat.{ℕ, zero, suc, ◌<◌, ◌-◌, ◌+◌, ◌%◌}
use mathlib.Core.List.{List}
use mathlib.Core.Path.{◌≡◌, refl, ap, ◌∙◌}
use borrow.Author.Rules.{rules}
use native.Mathlib.Omega.{arith}
use Rattle.places.specs.Layout.{head_of}
use Rattle.places.specs.Changes.{resettled, sifted}
use Rattle.places.proofs.sift.Goals as goal

-- one place of those that are left
one_less : (domain newest n : ℕ) (state : List ℕ) → 0 < n
    → sifted domain newest (n - 1) (resettled state domain ((newest + (n - 1)) % 64)) ≡ sifted domain newest n state
unfolding sifted
one_less domain newest zero state some = absurd (omega arith)
one_less domain newest (suc n) state some = let less : suc n - 1 ≡ n = omega arith in rw less

pub loop-n-init : goal.loop-n-init
loop-n-init c = (search rules, omega arith, omega arith, refl)

pub loop-n-preserved : goal.loop-n-preserved
loop-n-preserved c =
    let place = c in
    let a = place.args in
    let loop = place.loop-n in (
      search rules,
      omega arith,
      omega arith,
      ap (λ (s : List ℕ). sifted a.domain (head_of a.state.now) (loop.n - 1) s) c.resettle.ensures
          ∙ one_less a.domain (head_of a.state.now) loop.n loop.state place.loop-n-test.true
          ∙ loop.invariant.3,
    )

pub returns : goal.returns
unfolding sifted
returns c =
    let a = c.args in
    let loop = c.loop-n in
    let none : loop.n ≡ 0 = omega arith in
    rw none at loop.invariant.3
