-- What a writer lays down: a block of so many entries, with its number and its sum.
use Rattle.std.specs.Prelude.{ℕ, ◌*◌, ◌-◌, ◌&&◌, List, ◌∷◌, ◌++◌, eqb, leb, length, take, drop, replicate}
use Rattle.image.specs.Bytes.{bytes_of}
use Rattle.std.specs.Prelude.{if◌then◌else◌}
use Rattle.blocks.specs.Block.{weighed}

-- bytes 0 to 507, of a number, a count of entries and their bytes
unfoldable pub body : (number n : ℕ) (entries : List ℕ) → List ℕ
body number n entries = 0x56 ∷ n ∷ (bytes_of 6 number ++ (entries ++ replicate (500 - 32 * n) 0))

-- with the sum
unfoldable pub block_bytes : (number n : ℕ) (entries : List ℕ) → List ℕ
block_bytes number n entries = body number n entries ++ bytes_of 4 (weighed 0 (body number n entries))

-- the bytes of the first n entries in a buffer
abbrev pub held_in : (buffer : List ℕ) (n : ℕ) → List ℕ
held_in buffer n = take (32 * n) (drop 8 buffer)

-- a buffer with n entries in it made their block; a buffer of another length, or of more entries, is left
unfoldable pub finished : (buffer : List ℕ) (number n : ℕ) → List ℕ
finished buffer number n =
    if eqb (length buffer) 512 && leb n 15 then block_bytes number n (held_in buffer n) else buffer
