-- What is told of a listing beside its rows.
use Rattle.std.specs.Prelude.{ℕ, ◌/◌, min, Bool, List, [], ◌≡◌, ltb, length, take}
use Rattle.mapping.specs.Mapping.{Mapped, spans_mapped}
use Rattle.mapping.specs.Mapping as mapping
use Rattle.mapping.specs.Rows.{rows_of, laid_over}
use Rattle.mapping.specs.Spans.{Span}

-- no more than 4,096 are listed, and no more than there is room for
abbrev pub room : (numbers : ℕ) → ℕ
room numbers = min 4096 (numbers / 4)

-- the spans that are listed
abbrev pub shown : (most : ℕ) → Mapped → List Span
shown most (spans_mapped spans) = take most spans
shown most (mapping.refused number) = []
shown most mapping.passed = []
shown most (mapping.faulted reason) = []

-- what is told beside them: how many are listed, and whether there are more
pub data Told : Type 0 where
  refused : (number : ℕ) → Told
  passed : Told
  faulted : (reason : ℕ) → Told
  listed : (count : ℕ) (more : Bool) → Told

abbrev pub told_of : (most : ℕ) → Mapped → Told
told_of most (spans_mapped spans) = listed (min most (length spans)) (ltb most (length spans))
told_of most (mapping.refused number) = refused number
told_of most mapping.passed = passed
told_of most (mapping.faulted reason) = faulted reason

-- rows after a listing, and what was told of it: for the code's contracts
abbrev pub ListedAs : Mapped → (before after : List ℕ) → Told → Type 0
ListedAs answer before after told =
    (told ≡ told_of (room (length before)) answer)
    × (after ≡ laid_over (rows_of (shown (room (length before)) answer)) before)
