use Prim.Native.Nat.{◌-◌}
use mathlib.Core.Path.{ap, sym, ◌∙◌}
use borrow.Author.Rules.{rules}
use native.Mathlib.Omega.{arith}
use Rattle.places.specs.Layout.{bucket_in}
use Rattle.places.specs.Chain.{chained}
use Rattle.places.proofs.Chains.{no_place, not-older, key_here, key-later}
use Rattle.places.proofs.first_age.Goals as goal

pub loop-place-init : goal.loop-place-init
loop-place-init c =
    let l = c.args.state.now in
    let key = c.args.key in
    (search rules, omega arith, omega arith, ap (λ b. chained l key 64 0 (bucket_in l b)) c.bucket_of.ensures.value)

pub returns-then-age-least : goal.returns-then-age-least
returns-then-age-least c =
    let start = c in
    let loop = c.loop-place in
    sym (not-older start.args.state.now start.args.key (64 - loop.least) loop.least loop.place c.loop-place-test.true c.if-age-least.true)
    ∙ loop.invariant.3

pub returns-then-state-place : goal.returns-then-state-place
returns-then-state-place c =
    let start = c in
    let loop = c.loop-place in
    sym (key_here start.args.state.now start.args.key loop.least loop.place c.loop-place-test.true
    (omega arith) c.if-state-place.true)
    ∙ loop.invariant.3

pub loop-place-preserved : goal.loop-place-preserved
loop-place-preserved c =
    let place = c in
    let start = place in
    let loop = place.loop-place in (
      loop.invariant.0,
      omega arith,
      omega arith,
      key-later start.args.state.now start.args.key loop.least loop.place place.loop-place-test.true (omega arith) c.if-state-place.false
          ∙ loop.invariant.3,
    )

pub returns : goal.returns
returns c =
    let start = c in
    let loop = c.loop-place in
    sym (no_place start.args.state.now start.args.key (64 - loop.least) loop.least loop.place (omega arith)) ∙ loop.invariant.3
