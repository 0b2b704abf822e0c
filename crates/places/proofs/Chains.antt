-- A chain step by step, as the loop takes it.
use Prim.Native.Nat.{ℕ, zero, suc, ◌+◌, ◌-◌, ◌<◌, ◌≤◌}
use mathlib.Core.List.{List}
use mathlib.Core.Path.{◌≡◌, refl, sym, ◌∙◌}
use native.Mathlib.Omega.{arith}
use native.Mathlib.Decide.{dec_lt, dec_le, ℕ_discrete}
use borrow.Author.Tests.{lt-ltb, le-ltb, le-leb, lt-leb, eq-eqb, ne_eqb}
use Rattle.places.specs.Layout.{key_in, link_in, age_of}
use Rattle.places.specs.Chain.{chained}

pub age-lt : (state : List ℕ) (place : ℕ) → age_of state place < 64
age-lt state place = omega arith

module _ (state : List ℕ) (key : ℕ) where
  pub no_place : (n least place : ℕ) → 64 ≤ place → chained state key n least place ≡ 64
  unfolding chained
  no_place zero least place h = refl
  no_place (suc n) least place h = rw (le-ltb place 64 h)

  -- a place that is not older ends the chain
  pub not-older : (n least place : ℕ) → place < 64 → age_of state place < least → chained state key n least place ≡ 64
  unfolding chained
  not-older zero least place h young = refl
  not-older (suc n) least place h young = rw (lt-ltb place 64 h, lt-leb least (age_of state place) young)

  pub has_key : (n least place : ℕ) → place < 64 → least ≤ age_of state place → key_in state place ≡ key
      → chained state key (suc n) least place ≡ age_of state place
  unfolding chained
  has_key n least place h older is =
      rw (lt-ltb place 64 h, le-leb least (age_of state place) older, eq-eqb (key_in state place) key is)

  pub goes_on : (n least place : ℕ) → place < 64 → least ≤ age_of state place → (key_in state place ≡ key → ⊥)
      → chained state key (suc n) least place ≡ chained state key n (age_of state place + 1) (link_in state place)
  unfolding chained
  goes_on n least place h older other =
      rw (lt-ltb place 64 h, le-leb least (age_of state place) older, ne_eqb (key_in state place) key other)

  past_all : (n least place : ℕ) → 64 ≤ least → chained state key n least place ≡ 64
  past_all n least place h = on (dec_lt place 64)
    where
      on : Dec (place < 64) → chained state key n least place ≡ 64
      on (no far) = no_place n least place (omega arith)
      on (yes near) = not-older n least place near (omega (arith, age-lt state place))

  -- no chain is longer than the ages that are left
  pub enough : (n n' least place : ℕ) → 64 ≤ least + n → 64 ≤ least + n' → chained state key n least place ≡ chained state key n' least place
  enough zero n' least place a b = past_all zero least place (omega arith) ∙ sym (past_all n' least place (omega arith))
  enough (suc n) zero least place a b = past_all (suc n) least place (omega arith) ∙ sym (past_all zero least place (omega arith))
  enough (suc n) (suc n') least place a b =
      on (dec_lt place 64) (dec_le least (age_of state place)) (ℕ_discrete (key_in state place) key)
      (λ older. enough n n' (age_of state place + 1) (link_in state place) (omega arith) (omega arith))
    where
      on : Dec (place < 64) → Dec (least ≤ age_of state place) → Dec (key_in state place ≡ key)
          → (least ≤ age_of state place
          → chained state key n (age_of state place + 1) (link_in state place) ≡ chained state key n' (age_of state place + 1) (link_in state place))
          → chained state key (suc n) least place ≡ chained state key (suc n') least place
      on (no h) older is ih = no_place (suc n) least place (omega arith) ∙ sym (no_place (suc n') least place (omega arith))
      on (yes h) (no older) is ih =
          not-older (suc n) least place h (omega arith) ∙ sym (not-older (suc n') least place h (omega arith))
      on (yes h) (yes older) (yes is) ih = has_key n least place h older is ∙ sym (has_key n' least place h older is)
      on (yes h) (yes older) (no other) ih =
          goes_on n least place h older other ∙ ih older ∙ sym (goes_on n' least place h older other)

  -- the same with as many as there are ages left
  pub key_here : (least place : ℕ) → place < 64 → least ≤ age_of state place → key_in state place ≡ key
      → chained state key (64 - least) least place ≡ age_of state place
  key_here least place h older is =
      let left : 64 - least ≡ suc (63 - least) = omega (arith, age-lt state place) in
      rw left (has_key (63 - least) least place h older is)

  pub key-later : (least place : ℕ) → place < 64 → least ≤ age_of state place → (key_in state place ≡ key → ⊥)
      → chained state key (64 - (age_of state place + 1)) (age_of state place + 1) (link_in state place) ≡ chained state key (64 - least) least place
  key-later least place h older other =
      let left : 64 - least ≡ suc (63 - least) = omega (arith, age-lt state place) in
      rw left
      (enough (64 - (age_of state place + 1)) (63 - least) (age_of state place + 1) (link_in state place) (omega arith) (omega arith)
      ∙ sym (goes_on (63 - least) least place h older other))
