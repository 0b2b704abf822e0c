-- Chains that lead to every place in use: then looking a key up finds the newest place that has it.
use Prim.Native.Nat.{ℕ, zero, suc, ◌+◌, ◌^◌, ◌<◌, ◌≤◌}
use mathlib.Core.List.{List}
use mathlib.Core.Path.{◌≡◌, refl, ap, sym, ◌∙◌, subst}
use native.Mathlib.Omega.{arith}
use native.Mathlib.Decide.{dec_lt, dec_le, ℕ_discrete}
use borrow.Author.Tests.{eq-eqb, ne_eqb}
use lib.Dec.{eqb}
use Rattle.std.specs.Prelude.{if◌then◌else◌}
use Rattle.places.specs.Layout.{head_of, flag_in, key_in, link_in, bucket_in, place_of_age, age_of, bucket_of, key_level}
use Rattle.places.specs.Chain.{chained, first_age, age_of_key}
use Rattle.places.proofs.Chains.{age-lt, no_place, not-older, has_key, goes_on}

pub place-age : (state : List ℕ) (p : ℕ) → p < 64 → place_of_age state (age_of state p) ≡ p
place-age state p h = omega arith

-- the chain from a place, of ages of at least so many, leads to an age
pub data Reach (state : List ℕ) (age : ℕ) : (least place : ℕ) → Type 0 where
  here : (least place : ℕ) → place < 64 → least ≤ age_of state place → age_of state place ≡ age → Reach state age least place
  next : (least place : ℕ) → place < 64 → least ≤ age_of state place → Reach state age (age_of state place + 1) (link_in state place)
      → Reach state age least place

module _ {state : List ℕ} {age : ℕ} where
  pub reach_near : {least place : ℕ} → Reach state age least place → place < 64
  reach_near (here l p near older is) = near
  reach_near (next l p near older rest) = near

  pub reach-older : {least place : ℕ} → Reach state age least place → least ≤ age_of state place
  reach-older (here l p near older is) = older
  reach-older (next l p near older rest) = older

  pub reach-least : {least place : ℕ} → Reach state age least place → least ≤ age
  reach-least (here l p near older is) = omega arith
  reach-least (next l p near older rest) = omega (arith, reach-least rest)

  -- past a place of another age
  pub reach-on : {least place : ℕ} → (age_of state place ≡ age → ⊥) → Reach state age least place
      → Reach state age (age_of state place + 1) (link_in state place)
  reach-on other (here l p near older is) = absurd (other is)
  reach-on other (next l p near older rest) = rest

  -- no place of the chain is older than what it leads to
  pub reach-first : {least place : ℕ} → Reach state age least place → age_of state place ≤ age
  reach-first (here l p near older is) = omega arith
  reach-first (next l p near older rest) = omega (arith, reach-least rest)

  pub reach-fewer : {least less place : ℕ} → less ≤ least → Reach state age least place → Reach state age less place
  reach-fewer {less = less} h (here l p near older is) = here less p near (omega arith) is
  reach-fewer {less = less} h (next l p near older rest) = next less p near (omega arith) rest

-- the same chains over a state with the same newest place and the same links
pub reach-same : (state state' : List ℕ) → head_of state' ≡ head_of state → ((q : ℕ) → q < 64 → link_in state' q ≡ link_in state q)
    → {age least place : ℕ} → Reach state age least place → Reach state' age least place
reach-same state state' head links (here l p near older is) = here l p near (omega arith) (omega arith)
reach-same state state' head links (next l p near older rest) =
    let same : age_of state' p ≡ age_of state p = omega arith in
    next l p near (omega arith) (rw (same, links p near) (reach-same state state' head links rest))

-- the first age from least on with the key, or 64
pub record First (state : List ℕ) (key least x : ℕ) : Type 0 where
  pub most : x ≤ 64
  pub has : x < 64 → key_in state (place_of_age state x) ≡ key
  pub none : (i : ℕ) → least ≤ i → i < x → key_in state (place_of_age state i) ≡ key → ⊥

module _ (state : List ℕ) (key : ℕ) where
  abbrev All : (least place : ℕ) → Type 0
  All least place = (i : ℕ) → least ≤ i → i < 64 → key_in state (place_of_age state i) ≡ key → Reach state i least place

  nothing : (least place x : ℕ) → x ≡ 64 → ((i : ℕ) → Reach state i least place → ⊥) → All least place → First state key least x
  nothing least place x is never all =
      record { most = omega arith; has = λ h. absurd (omega arith); none = λ i from below at. never i (all i from (omega arith) at) }

  pub chain_first : (n least place : ℕ) → 64 ≤ least + n → All least place → First state key least (chained state key n least place)
  unfolding chained
  chain_first zero least place enough all =
      record { most = omega arith; has = λ h. absurd (omega arith); none = λ i from below at. omega arith }
  chain_first (suc n) least place enough all =
      subst (First state key least) refl
      (on (dec_lt place 64) (dec_le least (age_of state place)) (ℕ_discrete (key_in state place) key)
      (λ older more. chain_first n (age_of state place + 1) (link_in state place) (omega arith) more))
    where
      on : Dec (place < 64) → Dec (least ≤ age_of state place) → Dec (key_in state place ≡ key)
          → (least ≤ age_of state place → All (age_of state place + 1) (link_in state place)
          → First state key (age_of state place + 1) (chained state key n (age_of state place + 1) (link_in state place)))
          → First state key least (chained state key (suc n) least place)
      on (no far) older is ih =
          nothing least place _ (no_place state key (suc n) least place (omega arith)) (λ i r. far (reach_near r)) all
      on (yes near) (no young) is ih =
          nothing least place _ (not-older state key (suc n) least place near (omega arith)) (λ i r. young (reach-older r)) all
      on (yes near) (yes older) (yes is) ih =
          let found = has_key state key n least place near older is in
          let back = place-age state place near in
          rw found
          (record {
            most = omega (arith, age-lt state place);
            has = λ h. rw back is;
            none = λ i from below at.
                omega (arith, reach-first (all i from (omega (arith, age-lt state place)) at));
          })
      on (yes near) (yes older) (no other) ih =
          let back = place-age state place near in
          let apart : (i : ℕ) → key_in state (place_of_age state i) ≡ key → age_of state place ≡ i → ⊥ =
          λ i at same. other (ap (λ (q : ℕ). key_in state q) (sym back) ∙ ap (λ (j : ℕ). key_in state (place_of_age state j)) same ∙ at) in
          let rest = ih older (λ i from few at. reach-on (apart i at) (all i (omega arith) few at)) in
          rw (goes_on state key n least place near older other)
          (record {
            most = rest.most;
            has = rest.has;
            none = λ i from below at.
                rest.none i
                (reach-least (reach-on (apart i at) (all i from (omega (arith, rest.most)) at)))
                below at;
          })

-- each place in use is led to from its bucket, and the flag of its level is set
abbrev pub Linked : List ℕ → Type 0
Linked state =
    (i : ℕ) → i < 64 → (key_in state (place_of_age state i) ≡ 0 → ⊥)
    → Reach state i 0 (bucket_in state (bucket_of (key_in state (place_of_age state i))))

abbrev pub Flagged : List ℕ → Type 0
Flagged state =
    (i : ℕ) → i < 64 → (key_in state (place_of_age state i) ≡ 0 → ⊥)
    → (key_in state (place_of_age state i) < 2 ^ 64) × (flag_in state (key_level (key_in state (place_of_age state i))) ≡ 0 → ⊥)

pub first-age-first : (state : List ℕ) (key : ℕ) → Linked state → (key ≡ 0 → ⊥) → First state key 0 (first_age state key)
first-age-first state key linked used =
    chain_first state key 64 0 (bucket_in state (bucket_of key)) (omega arith)
    (λ i from few at.
    subst (λ (k : ℕ). Reach state i 0 (bucket_in state (bucket_of k))) at (linked i few (λ none. used (sym at ∙ none))))

pub age-of-key-first : (state : List ℕ) (key : ℕ) → Linked state → Flagged state → (key ≡ 0 → ⊥) → First state key 0 (age_of_key state key)
unfolding age_of_key
age-of-key-first state key linked flagged used = on (ℕ_discrete (flag_in state (key_level key)) 0)
  where
    on : Dec (flag_in state (key_level key) ≡ 0)
        → First state key 0 (if eqb (flag_in state (key_level key)) 0 then 64 else first_age state key)
    on (no set) = rw (ne_eqb (flag_in state (key_level key)) 0 set) (first-age-first state key linked used)
    on (yes unset) =
        rw (eq-eqb (flag_in state (key_level key)) 0 unset)
        (record {
          most = omega arith;
          has = λ h. absurd (omega arith);
          none = λ i from below at.
              (flagged i below (λ none. used (sym at ∙ none))).1 (ap (λ (k : ℕ). flag_in state (key_level k)) at ∙ unset);
        })
