-- The pages of the region by their marks: 0 for a free page, else the level of the table that it is.
use Rattle.std.specs.Prelude.{ℕ, suc, ◌+◌, List, [], ◌∷◌, eqb}
use Rattle.std.specs.Prelude.{if◌then◌else◌}

-- the lowest free page; where there is none, as many as there are
unfoldable pub lowest : (marks : List ℕ) → ℕ
lowest [] = 0
lowest (m ∷ ms) = if eqb m 0 then 0 else suc (lowest ms)

abbrev pub one_if_free : (mark : ℕ) → ℕ
one_if_free mark = if eqb mark 0 then 1 else 0

unfoldable pub free_pages : (marks : List ℕ) → ℕ
free_pages [] = 0
free_pages (m ∷ ms) = one_if_free m + free_pages ms
