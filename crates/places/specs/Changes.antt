-- What is changed in the state: one more is held, a place is made free, those of a domain are taken out.
use Rattle.std.specs.Prelude.{ℕ, zero, suc, ◌+◌, ◌%◌, ◌||◌, List, eqb, set}
use Rattle.std.specs.Prelude.{if◌then◌else◌}
use Rattle.places.specs.Layout.{head_of, key_in, frame_in, domain_in, bucket_in, bucket_of, key_level}

-- the place before the newest: free, or the oldest one's where 64 are held
abbrev pub before_of : List ℕ → ℕ
before_of state = (head_of state + 63) % 64

-- a place that goes is no bucket's newest any more
abbrev pub unless : (place newest : ℕ) → ℕ
unless place newest = if eqb newest place then 64 else newest

unfoldable pub released : (state : List ℕ) (place : ℕ) → List ℕ
released state place =
    set state (264 + bucket_of (key_in state place)) (unless place (bucket_in state (bucket_of (key_in state place))))

-- a place becomes the newest of a key's bucket
unfoldable pub linked : (state : List ℕ) (key place : ℕ) → List ℕ
linked state key place = set (set state (200 + place) (bucket_in state (bucket_of key))) (264 + bucket_of key) place

-- a place is filled, and the newest
unfoldable pub filled : (state : List ℕ) (key frame domain place : ℕ) → List ℕ
filled state key frame domain place =
    set (set (set (set (set state (8 + place) key) (72 + place) frame) (136 + place) domain) (4 + key_level key) 1) 0 place

-- one more: a 65th takes the oldest one's place
unfoldable pub holding : (state : List ℕ) (key frame domain : ℕ) → List ℕ
holding state key frame domain =
    filled (linked (released state (before_of state)) key (before_of state)) key frame domain (before_of state)

unfoldable pub freed : (state : List ℕ) (place : ℕ) → List ℕ
freed state place = set state (8 + place) 0

-- a place is freed, and what it held is held as the newest, where it is of another domain
unfoldable pub resettled : (state : List ℕ) (domain place : ℕ) → List ℕ
resettled state domain place =
    if eqb (key_in state place) 0 || eqb (domain_in state place) domain then freed state place
    else holding (freed state place) (key_in state place) (frame_in state place) (domain_in state place)

-- so of n places, from the oldest of them to the one given, which was the newest: then all that are left are so in their order
unfoldable pub sifted : (domain newest n : ℕ) (state : List ℕ) → List ℕ
sifted domain newest zero state = state
sifted domain newest (suc n) state = sifted domain newest n (resettled state domain ((newest + n) % 64))
