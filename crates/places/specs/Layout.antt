-- The lent state of a cache of 64 translations, as numbers: 776 words.
--     0            the newest place; older ones lie behind it, around
--     4 + level    not 0 where a page of that level, 1 to 3, may be held
--     8 to 71      the key of each place: a translation's page, source and kind, and in 63:62 the level of its leaf. 0 where it is free
--     72 to 135    the frame of each place
--     136 to 199   the domain of each place
--     200 to 263   the link of each place: the next older place of the same bucket, or no place
--     264 to 775   the newest place of each of 512 buckets, or no place
-- A number of 64 or more is no place. A state of zeros holds nothing.
use Rattle.std.specs.Prelude.{ℕ, ◌+◌, ◌-◌, ◌*◌, ◌/◌, ◌%◌, ◌^◌, List, get_or}

abbrev pub words : ℕ
words = 776

abbrev pub head_of : List ℕ → ℕ
head_of state = get_or state 0 0 % 64

abbrev pub flag_in : List ℕ → (level : ℕ) → ℕ
flag_in state level = get_or state (4 + level) 0

abbrev pub key_in : List ℕ → (place : ℕ) → ℕ
key_in state place = get_or state (8 + place) 0

abbrev pub frame_in : List ℕ → (place : ℕ) → ℕ
frame_in state place = get_or state (72 + place) 0

abbrev pub domain_in : List ℕ → (place : ℕ) → ℕ
domain_in state place = get_or state (136 + place) 0

abbrev pub link_in : List ℕ → (place : ℕ) → ℕ
link_in state place = get_or state (200 + place) 0

abbrev pub bucket_in : List ℕ → (bucket : ℕ) → ℕ
bucket_in state bucket = get_or state (264 + bucket) 0

-- the place of an age, 0 for the newest, and the age of a place
abbrev pub place_of_age : List ℕ → (age : ℕ) → ℕ
place_of_age state age = (head_of state + age) % 64

abbrev pub age_of : List ℕ → (place : ℕ) → ℕ
age_of state place = (place + 64 - head_of state) % 64

-- the level that a key has in 63:62
abbrev pub key_level : (key : ℕ) → ℕ
key_level key = key / 2 ^ 62

-- a key's bucket: bits 31:23 of a product, so that keys that differ little are far apart
unfoldable pub bucket_of : (key : ℕ) → ℕ
bucket_of key = (key % 2 ^ 32 + key / 2 ^ 32) * 0x4F1B_BCDD / 2 ^ 23 % 512
