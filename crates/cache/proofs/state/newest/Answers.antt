use Prim.Native.Nat.{ℕ, ◌<◌, ◌≤◌}
use mathlib.Core.Bool.{Bool, true, false}
use mathlib.Core.Path.{◌≡◌, refl, ap, sym, ◌∙◌}
use native.Mathlib.Omega.{arith}
use borrow.Author.Tests.{ltb-true, ltb-false}
use lib.Dec.{ltb}
use Rattle.std.specs.Prelude.{Option, MatchOption}
use Rattle.std.specs.Bool.{then_some}
use Rattle.places.specs.Chain.{age_of_key}
use Rattle.cache.specs.Numbers.{newest}
use Rattle.cache.proofs.state.newest.Goals.{After-then_some}
use Rattle.cache.proofs.state.newest.Goals as goal

-- an age below 64 is that of a place
abbrev Told : ℕ → Option ℕ → Type 0
Told n o = MatchOption o (64 ≤ n) (λ age. (age ≡ n) × (age < 64))

told : (n : ℕ) → Told n (then_some (ltb n 64) n)
told n = by (ltb n 64) refl
  where
    by : (few : Bool) → ltb n 64 ≡ few → Told n (then_some few n)
    by true few = (refl, ltb-true _ _ few)
    by false many = ltb-false _ _ many

pub returns-then-not-caches : goal.returns-then-not-caches
unfolding newest
returns-then-not-caches c = rw (sym c.caches.ensures ∙ c.if-not-caches.true) (omega arith)

-- the least of the three ages
least : (c : After-then_some) → c.min-age.result ≡ newest c.args.state.now c.args.request
unfolding newest
least c =
    let st = c.args.state.now in
    let first = c.age_of_key.ensures ∙ ap (age_of_key st) c.small_key-small.ensures in
    let second = c.age_of_key-2.ensures ∙ ap (age_of_key st) c.medium_key-medium.ensures in
    let third = c.age_of_key-3.ensures ∙ ap (age_of_key st) c.large_key-large.ensures in
    rw (sym c.caches.ensures ∙ c.if-not-caches.false) (omega (arith, first, second, third))

pub returns : goal.returns
returns c =
    let is = least (goal.at.returns c).After-then_some in
    rw (c.then_some.ensures, ← is) (told c.min-age.result)
