-- The lent rows of numbers that a listing is written to, four a span: start, size, the frame, reason or number, and in the last the
-- rights (bit 0 read, bit 1 write) with the kind in 3:2: 0 a page, 1 a fault, 2 refused.
use Rattle.std.specs.Prelude.{ℕ, ◌+◌, ◌*◌, List, [], ◌∷◌, ◌++◌, length, drop}
use Rattle.regions.specs.Known.{rights_number}
use Rattle.regions.specs.Region.{What, page, fault, refused, nothing}
use Rattle.mapping.specs.Spans.{Span}

-- nothing is never listed
abbrev pub value_of : What → ℕ
value_of (page frame) = frame
value_of (fault reason) = reason
value_of (refused number) = number
value_of nothing = 0

abbrev pub what_kind : What → ℕ
what_kind (page frame) = 0
what_kind (fault reason) = 1
what_kind (refused number) = 2
what_kind nothing = 3

abbrev pub span_row : Span → List ℕ
span_row s = s.start ∷ s.size ∷ value_of s.what ∷ (4 * what_kind s.what + rights_number s.rights) ∷ []

unfoldable pub rows_of : List Span → List ℕ
rows_of [] = []
rows_of (s ∷ ss) = span_row s ++ rows_of ss

-- numbers in the place of the first ones; all others stay
abbrev pub laid_over : (numbers buffer : List ℕ) → List ℕ
laid_over numbers buffer = numbers ++ drop (length numbers) buffer
