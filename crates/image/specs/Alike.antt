-- A memory that has all that another has.
use Rattle.std.specs.Prelude.{◌≡◌, ℕ, ◌%◌}
use Rattle.image.specs.Memory.{Memory, found}

-- the second memory has every word of the first, and may have more; a word is aligned, as all are that requests read
abbrev pub Extends : Memory → Memory → Type 0
Extends m m' = (at w : ℕ) → at % 8 ≡ 0 → m at ≡ found w → m' at ≡ found w
