-- What stands where after one more is held.
use Prim.Native.Nat.{ℕ, ◌+◌, ◌^◌, ◌<◌, ◌≤◌}
use mathlib.Core.List.{List}
use mathlib.Core.Path.{◌≡◌, ◌∙◌}
use native.Mathlib.Omega.{arith}
use native.Mathlib.Decide.{ℕ_discrete}
use borrow.Author.Tests.{ne_eqb}
use lib.ListN.{length, length-set, get_or, set}
use lib.Seq.{get_or-set_same, get_or-set_other}
use Rattle.places.specs.Layout.{words, flag_in, key_in, frame_in, domain_in, link_in, bucket_in, bucket_of, key_level}
use Rattle.places.specs.Changes.{before_of, unless, released, linked, filled, holding}
use Rattle.places.proofs.Lengths.{length-released, length-linked}

pub bucket-lt : (key : ℕ) → bucket_of key < 512
unfolding bucket_of
bucket-lt key = omega arith

-- a place goes from its bucket
module _ (state : List ℕ) (p : ℕ) where
  pub released-low : (j : ℕ) → j < 264 → get_or (released state p) j 0 ≡ get_or state j 0
  unfolding released
  released-low j low = get_or-set_other state (264 + bucket_of (key_in state p)) j _ 0 (λ e. omega arith)

  pub released-kept : length state ≡ words → (b : ℕ) → b < 512 → (bucket_in state b ≡ p → ⊥) → bucket_in (released state p) b ≡ bucket_in state b
  unfolding released
  released-kept long b few other = on (ℕ_discrete b (bucket_of (key_in state p)))
    where
      o : ℕ
      o = bucket_of (key_in state p)

      on : Dec (b ≡ bucket_of (key_in state p))
          → get_or (set state (264 + bucket_of (key_in state p)) (unless p (bucket_in state (bucket_of (key_in state p))))) (264 + b) 0 ≡ bucket_in state b
      on (no apart) = get_or-set_other state (264 + bucket_of (key_in state p)) (264 + b) _ 0 (λ e. apart (omega arith))
      on (yes same) =
          rw (← same)
          (get_or-set_same state (264 + b) (unless p (bucket_in state b)) 0 (omega arith) ∙ rw (ne_eqb (bucket_in state b) p other))

module _ (s : List ℕ) (key p : ℕ) (long : length s ≡ words) (few : p < 64) where
  abbrev own : List ℕ
  own = set s (200 + p) (bucket_in s (bucket_of key))

  pub linked-low : (j : ℕ) → j < 200 → get_or (linked s key p) j 0 ≡ get_or s j 0
  unfolding linked
  linked-low j low =
      get_or-set_other own (264 + bucket_of key) j p 0 (λ e. omega arith) ∙ get_or-set_other s (200 + p) j _ 0 (λ e. omega arith)

  pub linked-link : link_in (linked s key p) p ≡ bucket_in s (bucket_of key)
  unfolding linked
  linked-link =
      get_or-set_other own (264 + bucket_of key) (200 + p) p 0 (λ e. omega arith) ∙ get_or-set_same s (200 + p) (bucket_in s (bucket_of key)) 0 (omega arith)

  pub linked-other : (q : ℕ) → q < 64 → (q ≡ p → ⊥) → link_in (linked s key p) q ≡ link_in s q
  unfolding linked
  linked-other q near apart =
      get_or-set_other own (264 + bucket_of key) (200 + q) p 0 (λ e. omega arith)
      ∙ get_or-set_other s (200 + p) (200 + q) _ 0 (λ e. apart (omega arith))

  pub linked-bucket : bucket_in (linked s key p) (bucket_of key) ≡ p
  unfolding linked
  linked-bucket = get_or-set_same own (264 + bucket_of key) p 0 (omega (arith, length-set s (200 + p) (bucket_in s (bucket_of key)), bucket-lt key))

  pub linked-buckets : (b : ℕ) → (b ≡ bucket_of key → ⊥) → bucket_in (linked s key p) b ≡ bucket_in s b
  unfolding linked
  linked-buckets b apart =
      get_or-set_other own (264 + bucket_of key) (264 + b) p 0 (λ e. apart (omega arith))
      ∙ get_or-set_other s (200 + p) (264 + b) _ 0 (λ e. omega arith)

module _ (s : List ℕ) (key frame domain p : ℕ) (long : length s ≡ words) (few : p < 64) (fits : key < 2 ^ 64) where
  abbrev keyed : List ℕ
  keyed = set s (8 + p) key

  abbrev framed : List ℕ
  framed = set keyed (72 + p) frame

  abbrev owned : List ℕ
  owned = set framed (136 + p) domain

  abbrev flagged : List ℕ
  flagged = set owned (4 + key_level key) 1

  level-lt : key_level key < 4
  level-lt = omega arith

  -- past the head and the flags
  filled-high : (j : ℕ) → 8 ≤ j → get_or (filled s key frame domain p) j 0 ≡ get_or owned j 0
  unfolding filled
  filled-high j high =
      get_or-set_other flagged 0 j p 0 (λ e. omega arith) ∙ get_or-set_other owned (4 + key_level key) j 1 0 (λ e. omega (arith, level-lt))

  filled-past : (j : ℕ) → 8 ≤ j → (j ≡ 8 + p → ⊥) → (j ≡ 72 + p → ⊥) → (j ≡ 136 + p → ⊥) → get_or (filled s key frame domain p) j 0 ≡ get_or s j 0
  filled-past j high a b c =
      filled-high j high
      ∙ get_or-set_other framed (136 + p) j domain 0 c
      ∙ get_or-set_other keyed (72 + p) j frame 0 b
      ∙ get_or-set_other s (8 + p) j key 0 a

  pub filled-key : key_in (filled s key frame domain p) p ≡ key
  filled-key =
      filled-high (8 + p) (omega arith)
      ∙ get_or-set_other framed (136 + p) (8 + p) domain 0 (λ e. omega arith)
      ∙ get_or-set_other keyed (72 + p) (8 + p) frame 0 (λ e. omega arith)
      ∙ get_or-set_same s (8 + p) key 0 (omega arith)

  pub filled-frame : frame_in (filled s key frame domain p) p ≡ frame
  filled-frame =
      filled-high (72 + p) (omega arith)
      ∙ get_or-set_other framed (136 + p) (72 + p) domain 0 (λ e. omega arith)
      ∙ get_or-set_same keyed (72 + p) frame 0 (omega (arith, length-set s (8 + p) key))

  pub filled-domain : domain_in (filled s key frame domain p) p ≡ domain
  filled-domain =
      filled-high (136 + p) (omega arith)
      ∙ get_or-set_same framed (136 + p) domain 0 (omega (arith, length-set s (8 + p) key, length-set keyed (72 + p) frame))

  pub filled-keys : (q : ℕ) → q < 64 → (q ≡ p → ⊥) → key_in (filled s key frame domain p) q ≡ key_in s q
  filled-keys q near apart = filled-past (8 + q) (omega arith) (λ e. apart (omega arith)) (λ e. omega arith) (λ e. omega arith)

  pub filled-frames : (q : ℕ) → q < 64 → (q ≡ p → ⊥) → frame_in (filled s key frame domain p) q ≡ frame_in s q
  filled-frames q near apart = filled-past (72 + q) (omega arith) (λ e. omega arith) (λ e. apart (omega arith)) (λ e. omega arith)

  pub filled-domains : (q : ℕ) → q < 64 → (q ≡ p → ⊥) → domain_in (filled s key frame domain p) q ≡ domain_in s q
  filled-domains q near apart = filled-past (136 + q) (omega arith) (λ e. omega arith) (λ e. omega arith) (λ e. apart (omega arith))

  pub filled-links : (j : ℕ) → 200 ≤ j → get_or (filled s key frame domain p) j 0 ≡ get_or s j 0
  filled-links j high = filled-past j (omega arith) (λ e. omega arith) (λ e. omega arith) (λ e. omega arith)

  lengths : length flagged ≡ words
  lengths =
      length-set owned (4 + key_level key) 1 ∙ length-set framed (136 + p) domain ∙ length-set keyed (72 + p) frame ∙ length-set s (8 + p) key ∙ long

  pub filled-head : get_or (filled s key frame domain p) 0 0 ≡ p
  unfolding filled
  filled-head = get_or-set_same flagged 0 p 0 (omega (arith, lengths))

  pub filled-flag : flag_in (filled s key frame domain p) (key_level key) ≡ 1
  unfolding filled
  filled-flag =
      get_or-set_other flagged 0 (4 + key_level key) p 0 (λ e. omega arith)
      ∙ get_or-set_same owned (4 + key_level key) 1 0
      (omega (arith, level-lt, length-set framed (136 + p) domain, length-set keyed (72 + p) frame, length-set s (8 + p) key))

  pub filled-flags : (level : ℕ) → level < 4 → (level ≡ key_level key → ⊥) → flag_in (filled s key frame domain p) level ≡ flag_in s level
  unfolding filled
  filled-flags level small apart =
      get_or-set_other flagged 0 (4 + level) p 0 (λ e. omega arith)
      ∙ get_or-set_other owned (4 + key_level key) (4 + level) 1 0 (λ e. apart (omega arith))
      ∙ get_or-set_other framed (136 + p) (4 + level) domain 0 (λ e. omega arith)
      ∙ get_or-set_other keyed (72 + p) (4 + level) frame 0 (λ e. omega arith)
      ∙ get_or-set_other s (8 + p) (4 + level) key 0 (λ e. omega arith)

-- all of it
module _ (state : List ℕ) (key frame domain : ℕ) (long : length state ≡ words) (fits : key < 2 ^ 64) where
  abbrev pub place : ℕ
  place = before_of state

  abbrev bare : List ℕ
  bare = released state place

  abbrev led : List ℕ
  led = linked bare key place

  long-bare : length bare ≡ words
  long-bare = length-released state place ∙ long

  long-led : length led ≡ words
  long-led = length-linked bare key place ∙ long-bare

  place-lt : place < 64
  place-lt = omega arith

  low : (j : ℕ) → j < 200 → get_or led j 0 ≡ get_or state j 0
  low j small = linked-low bare key place long-bare place-lt j small ∙ released-low state place j (omega arith)

  pub new-head : get_or (holding state key frame domain) 0 0 ≡ place
  unfolding holding
  new-head = filled-head led key frame domain place long-led place-lt fits

  pub new-key : key_in (holding state key frame domain) place ≡ key
  unfolding holding
  new-key = filled-key led key frame domain place long-led place-lt fits

  pub new-frame : frame_in (holding state key frame domain) place ≡ frame
  unfolding holding
  new-frame = filled-frame led key frame domain place long-led place-lt fits

  pub new-domain : domain_in (holding state key frame domain) place ≡ domain
  unfolding holding
  new-domain = filled-domain led key frame domain place long-led place-lt fits

  pub new-flag : flag_in (holding state key frame domain) (key_level key) ≡ 1
  unfolding holding
  new-flag = filled-flag led key frame domain place long-led place-lt fits

  pub new-link : link_in (holding state key frame domain) place ≡ bucket_in (released state place) (bucket_of key)
  unfolding holding
  new-link =
      filled-links led key frame domain place long-led place-lt fits (200 + place) (omega arith) ∙ linked-link bare key place long-bare place-lt

  pub new-bucket : bucket_in (holding state key frame domain) (bucket_of key) ≡ place
  unfolding holding
  new-bucket =
      filled-links led key frame domain place long-led place-lt fits (264 + bucket_of key) (omega arith)
      ∙ linked-bucket bare key place long-bare place-lt

  module _ (q : ℕ) (near : q < 64) (apart : q ≡ place → ⊥) where
    pub old-key : key_in (holding state key frame domain) q ≡ key_in state q
    unfolding holding
    old-key = filled-keys led key frame domain place long-led place-lt fits q near apart ∙ low (8 + q) (omega arith)

    pub old-frame : frame_in (holding state key frame domain) q ≡ frame_in state q
    unfolding holding
    old-frame = filled-frames led key frame domain place long-led place-lt fits q near apart ∙ low (72 + q) (omega arith)

    pub old-domain : domain_in (holding state key frame domain) q ≡ domain_in state q
    unfolding holding
    old-domain = filled-domains led key frame domain place long-led place-lt fits q near apart ∙ low (136 + q) (omega arith)

    pub old-link : link_in (holding state key frame domain) q ≡ link_in state q
    unfolding holding
    old-link =
        filled-links led key frame domain place long-led place-lt fits (200 + q) (omega arith)
        ∙ linked-other bare key place long-bare place-lt q near apart
        ∙ released-low state place (200 + q) (omega arith)

  pub old-bucket : (b : ℕ) → b < 512 → (b ≡ bucket_of key → ⊥) → (bucket_in state b ≡ place → ⊥)
      → bucket_in (holding state key frame domain) b ≡ bucket_in state b
  unfolding holding
  old-bucket b few apart other =
      filled-links led key frame domain place long-led place-lt fits (264 + b) (omega arith)
      ∙ linked-buckets bare key place long-bare place-lt b apart
      ∙ released-kept state place long b few other

  pub old-flag : (level : ℕ) → level < 4 → (level ≡ key_level key → ⊥) → flag_in (holding state key frame domain) level ≡ flag_in state level
  unfolding holding
  old-flag level small apart =
      filled-flags led key frame domain place long-led place-lt fits level small apart ∙ low (4 + level) (omega arith)
