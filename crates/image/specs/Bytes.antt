-- Numbers as runs of bytes, lowest byte first, and as runs of words.
use Rattle.std.specs.Prelude.{ℕ, zero, suc, ◌+◌, ◌*◌, ◌/◌, ◌%◌, ◌^◌, List, [], ◌∷◌}

-- the number that a run of bytes spells
unfoldable pub little_endian : List ℕ → ℕ
little_endian [] = 0
little_endian (b ∷ bs) = b + 256 * little_endian bs

-- the lowest n bytes of a number
unfoldable pub bytes_of : ℕ → ℕ → List ℕ
bytes_of zero value = []
bytes_of (suc n) value = value % 256 ∷ bytes_of n (value / 256)

-- the number that a run of words spells, lowest word first
unfoldable pub spell : List ℕ → ℕ
spell [] = 0
spell (w ∷ ws) = w + 2 ^ 64 * spell ws
