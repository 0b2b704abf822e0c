-- Host memory as the rules see it: at each address a whole word of 8 bytes, or nothing.
use Rattle.std.specs.Prelude.{ℕ, zero, suc, ◌+◌, ◌*◌, ◌^◌, List, ◌++◌, length, take, drop, nat_le}
use Rattle.image.specs.Bytes.{little_endian, bytes_of}
use Rattle.std.specs.Prelude.{if◌then◌else◌}

-- what a fetch finds: nothing, or a number
pub data Fetched : Type 0 where
  missing : Fetched
  found : ℕ → Fetched

abbrev pub Memory : Type 0
Memory = ℕ → Fetched

-- one thing where nothing was found, another of the number that was
abbrev pub on_fetch {ℓ} : {A : Type ℓ} → Fetched → A → (ℕ → A) → A
on_fetch missing none some = none
on_fetch (found e) none some = some e

-- the number in the 8 bytes from an address of a run of bytes
unfoldable pub word_at : List ℕ → ℕ → ℕ
word_at image at = little_endian (take 8 (drop at image))

-- the lent run of bytes, byte n at host address n
unfoldable pub of_image : List ℕ → Memory
of_image image at = if nat_le (at + 8) (length image) then found (word_at image at) else missing

-- the run of bytes with another number in the 8 bytes from an address, where all of them lie in it
unfoldable pub with_word : List ℕ → ℕ → ℕ → List ℕ
with_word image at word =
    if nat_le (at + 8) (length image) then take at image ++ bytes_of 8 word ++ drop (at + 8) image else image

-- a word in front of the number that the words after it spell
abbrev pub join : Fetched → Fetched → Fetched
join missing rest = missing
join (found w) missing = missing
join (found w) (found rest) = found (w + 2 ^ 64 * rest)

-- an entry of so many words, lowest first: it is fetched where all of its words are
unfoldable pub entry : ℕ → Memory → ℕ → Fetched
entry zero m at = found 0
entry (suc n) m at = join (m at) (entry n m (at + 8))
