-- Chains lead to every place in use after each change.
use Prim.Native.Nat.{ℕ, zero, suc, ◌+◌, ◌%◌, ◌^◌, ◌<◌}
use mathlib.Core.List.{List}
use mathlib.Core.Path.{◌≡◌, refl, ap, sym, ◌∙◌}
use native.Mathlib.Omega.{arith}
use native.Mathlib.Decide.{ℕ_discrete}
use lib.ListN.{length, get_or, set, replicate}
use lib.Seq.{get_or-set_same, get_or-set_other}
use Rattle.places.specs.Layout.{words, head_of, flag_in, key_in, frame_in, domain_in, link_in, bucket_in, place_of_age, age_of, bucket_of, key_level}
use Rattle.places.specs.Changes.{before_of, released, holding, freed}
use Rattle.places.proofs.Linked.{Reach, here, next, reach_near, reach-first, reach-least, reach-fewer, reach-same, Linked, Flagged}
use Rattle.places.proofs.Stored.{new-head, new-key, new-frame, new-domain, new-link, new-bucket, new-flag, old-key, old-frame, old-domain, old-link, old-bucket, old-flag, bucket-lt, released-kept}

-- one more is held
module _ (state : List ℕ) (key frame domain : ℕ) (long : length state ≡ words) (fits : key < 2 ^ 64) where
  abbrev new : List ℕ
  new = holding state key frame domain

  pub head-new : head_of new ≡ before_of state
  head-new = ap (λ (n : ℕ). n % 64) (new-head state key frame domain long fits) ∙ omega arith

  -- the places of ages before and after
  pub first-place : place_of_age new 0 ≡ before_of state
  first-place = omega (arith, head-new)

  pub next_place : (i : ℕ) → i < 63 → place_of_age new (suc i) ≡ place_of_age state i
  next_place i h = omega (arith, head-new)

  pub not_first : (i : ℕ) → i < 63 → place_of_age state i ≡ before_of state → ⊥
  not_first i h e = omega arith

  apart : (q : ℕ) → q < 64 → age_of state q < 63 → q ≡ before_of state → ⊥
  apart q near h e = omega arith

  age-new : (q : ℕ) → q < 64 → age_of state q < 63 → age_of new q ≡ age_of state q + 1
  age-new q near h = omega (arith, head-new)

  longer : {i least q : ℕ} → i < 63 → Reach state i least q → Reach new (suc i) (least + 1) q
  longer h (here least q near older is) =
      let aged = age-new q near (omega arith) in
      here (least + 1) q near (omega arith) (omega arith)
  longer h (next least q near older rest) =
      let young : age_of state q < 63 = omega (arith, reach-least rest) in
      let aged = age-new q near young in
      let same = old-link state key frame domain long fits q near (apart q near young) in
      next (least + 1) q near (omega arith) (rw (aged, same) (longer h rest))

  -- what the places hold, by age
  pub newest-key : key_in new (place_of_age new 0) ≡ key
  newest-key = rw first-place (new-key state key frame domain long fits)

  pub newest-frame : frame_in new (place_of_age new 0) ≡ frame
  newest-frame = rw first-place (new-frame state key frame domain long fits)

  pub newest-domain : domain_in new (place_of_age new 0) ≡ domain
  newest-domain = rw first-place (new-domain state key frame domain long fits)

  pub older-key : (i : ℕ) → i < 63 → key_in new (place_of_age new (suc i)) ≡ key_in state (place_of_age state i)
  older-key i h = rw (next_place i h) (old-key state key frame domain long fits (place_of_age state i) (omega arith) (not_first i h))

  pub older-frame : (i : ℕ) → i < 63 → frame_in new (place_of_age new (suc i)) ≡ frame_in state (place_of_age state i)
  older-frame i h = rw (next_place i h) (old-frame state key frame domain long fits (place_of_age state i) (omega arith) (not_first i h))

  pub older-domain : (i : ℕ) → i < 63 → domain_in new (place_of_age new (suc i)) ≡ domain_in state (place_of_age state i)
  older-domain i h = rw (next_place i h) (old-domain state key frame domain long fits (place_of_age state i) (omega arith) (not_first i h))

  -- a chain to an age that stays doesn't begin at the place that goes
  begins : {i : ℕ} (b : ℕ) → i < 63 → Reach state i 0 (bucket_in state b) → bucket_in state b ≡ before_of state → ⊥
  begins b h r e =
      apart (bucket_in state b) (reach_near r) (omega (arith, reach-first r)) e

  to-older : (i b : ℕ) → i < 63 → b < 512 → Reach state i 0 (bucket_in state b) → Reach new (suc i) 0 (bucket_in new b)
  to-older i b h few r = on (ℕ_discrete b (bucket_of key))
    where
      on : Dec (b ≡ bucket_of key) → Reach new (suc i) 0 (bucket_in new b)
      on (no other) =
          rw (old-bucket state key frame domain long fits b few other (begins b h r)) (reach-fewer (omega arith) (longer h r))
      on (yes same) =
          let p = before_of state in
          let zeroth : age_of new p ≡ 0 = omega (arith, head-new) in
          let link : link_in new p ≡ bucket_in state b =
          new-link state key frame domain long fits ∙ ap (bucket_in (released state p)) (sym same) ∙ released-kept state p long b few (begins b h r) in
          let start : bucket_in new b ≡ p = ap (bucket_in new) same ∙ new-bucket state key frame domain long fits in
          rw start (next 0 p (omega arith) (omega arith) (rw (zeroth, link) (longer h r)))

  pub hold-linked : Linked state → Linked new
  hold-linked linked zero few used =
      let at : key_in new (place_of_age new 0) ≡ key = rw first-place (new-key state key frame domain long fits) in
      rw (at, new-bucket state key frame domain long fits) (here 0 (before_of state) (omega arith) (omega arith) (omega (arith, head-new)))
  hold-linked linked (suc i) few used =
      let same = older-key i (omega arith) in
      rw same
      (to-older i (bucket_of (key_in state (place_of_age state i))) (omega arith) (bucket-lt (key_in state (place_of_age state i)))
      (linked i (omega arith) (λ none. used (same ∙ none))))

  pub hold-flagged : Flagged state → Flagged new
  hold-flagged flagged zero few used =
      let at : key_in new (place_of_age new 0) ≡ key = rw first-place (new-key state key frame domain long fits) in
      rw at (fits, λ none. let z : ◌≡◌ {A = ℕ} 0 1 = sym none ∙ new-flag state key frame domain long fits in omega arith)
  hold-flagged flagged (suc i) few used =
      let same = older-key i (omega arith) in
      let was = flagged i (omega arith) (λ none. used (same ∙ none)) in
      rw same
      (was.0, on (key_in state (place_of_age state i)) was.0 was.1 (ℕ_discrete (key_level (key_in state (place_of_age state i))) (key_level key)))
    where
      on : (k : ℕ) → k < 2 ^ 64 → (flag_in state (key_level k) ≡ 0 → ⊥) → Dec (key_level k ≡ key_level key) → flag_in new (key_level k) ≡ 0 → ⊥
      on k small set (yes same) none =
          let z : ◌≡◌ {A = ℕ} 0 1 = sym none ∙ ap (flag_in new) same ∙ new-flag state key frame domain long fits in
          omega arith
      on k small set (no other) none =
          set (sym (old-flag state key frame domain long fits (key_level k) (omega arith) other) ∙ none)

-- a place is freed
module _ (state : List ℕ) (p : ℕ) (few-places : p < 64) (long : length state ≡ words) where
  pub freed-elsewhere : (j : ℕ) → (j ≡ 8 + p → ⊥) → get_or (freed state p) j 0 ≡ get_or state j 0
  unfolding freed
  freed-elsewhere j apart = get_or-set_other state (8 + p) j 0 0 apart

  pub freed-there : key_in (freed state p) p ≡ 0
  unfolding freed
  freed-there = get_or-set_same state (8 + p) 0 0 (omega arith)

  pub freed-head : head_of (freed state p) ≡ head_of state
  freed-head = ap (λ (n : ℕ). n % 64) (freed-elsewhere 0 (λ e. omega arith))

  pub freed-key : (q : ℕ) → (q ≡ p → ⊥) → key_in (freed state p) q ≡ key_in state q
  freed-key q apart = freed-elsewhere (8 + q) (λ e. apart (omega arith))

  pub freed-place : (i : ℕ) → place_of_age (freed state p) i ≡ place_of_age state i
  freed-place i = omega (arith, freed-head)

  -- what is still in use there was so before
  pub used-before : (i : ℕ) → (key_in (freed state p) (place_of_age (freed state p) i) ≡ 0 → ⊥)
      → key_in (freed state p) (place_of_age (freed state p) i) ≡ key_in state (place_of_age state i)
  used-before i used =
      let at = freed-place i in
      rw at
      (freed-key (place_of_age state i) (λ e. used (rw at (rw e freed-there))))

  pub freed-linked : Linked state → Linked (freed state p)
  freed-linked linked i few used =
      let same = used-before i used in
      let b = bucket_of (key_in state (place_of_age state i)) in
      rw (same, freed-elsewhere (264 + b) (λ e. omega arith))
      (reach-same state (freed state p) freed-head (λ q near. freed-elsewhere (200 + q) (λ e. omega arith)) (linked i few (λ none. used (same ∙ none))))

  pub freed-flagged : Flagged state → Flagged (freed state p)
  freed-flagged flagged i few used =
      let same = used-before i used in
      let was = flagged i few (λ none. used (same ∙ none)) in
      rw same (was.0, on (key_in state (place_of_age state i)) was.0 was.1)
    where
      on : (k : ℕ) → k < 2 ^ 64 → (flag_in state (key_level k) ≡ 0 → ⊥) → flag_in (freed state p) (key_level k) ≡ 0 → ⊥
      on k small set none = set (sym (freed-elsewhere (4 + key_level k) (λ e. omega arith)) ∙ none)

-- a state of zeros
pub zero-at : (n j : ℕ) → get_or (replicate {A = ℕ} n 0) j 0 ≡ 0
zero-at zero j = refl
zero-at (suc n) zero = refl
zero-at (suc n) (suc j) = zero-at n j
