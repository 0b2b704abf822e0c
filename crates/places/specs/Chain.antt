-- Looking a key up: along the links of its bucket, from its newest place to older ones.
use Rattle.std.specs.Prelude.{ℕ, zero, suc, ◌+◌, ◌&&◌, List, eqb, ltb, leb}
use Rattle.std.specs.Prelude.{if◌then◌else◌}
use Rattle.places.specs.Layout.{key_in, link_in, bucket_in, age_of, bucket_of, key_level, flag_in}

-- the age of the first place with the key, or 64: a link that is no place, or that leads to a place not older, ends the chain
unfoldable pub chained : (state : List ℕ) (key n least place : ℕ) → ℕ
chained state key zero least place = 64
chained state key (suc n) least place =
    if ltb place 64 && leb least (age_of state place) then
    if eqb (key_in state place) key then age_of state place
    else chained state key n (age_of state place + 1) (link_in state place)
    else 64

abbrev pub first_age : (state : List ℕ) (key : ℕ) → ℕ
first_age state key = chained state key 64 0 (bucket_in state (bucket_of key))

-- a key of a level of which nothing can be held isn't looked up
unfoldable pub age_of_key : (state : List ℕ) (key : ℕ) → ℕ
age_of_key state key = if eqb (flag_in state (key_level key)) 0 then 64 else first_age state key
