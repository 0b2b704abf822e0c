-- The next span that is listed, as the code looks for it: for its contracts.
use Rattle.std.specs.Prelude.{ℕ, ◌+◌, ◌/◌, ◌%◌, ◌≤◌, ◌<◌, true, false, [], ◌∷◌, ◌≡◌}
use Rattle.dma.specs.InterruptRange.{span_at}
use Rattle.regions.specs.Region.{Region, is_listed}
use Rattle.mapping.specs.Spans.{span_of, spans_after}

-- a region begins at an address, if something is listed there
abbrev pub Fresh : (region : (address : ℕ) → Region) (address : ℕ) → Type 0
Fresh region address = is_listed (region address).what ≡ true → address % span_at (region address).level ≡ 0

-- the region of an address; or, where nothing is listed, perhaps a wider one of which that is true too
pub record Tells (region : (address : ℕ) → Region) (address : ℕ) (r : Region) : Type 0 where
  pub high : (0 < r.level) × (r.level ≤ 6)
  pub something : is_listed r.what ≡ true → r ≡ region address
  pub nothing : is_listed r.what ≡ false → (x : ℕ) → address / span_at r.level ≡ x / span_at r.level → is_listed (region x).what ≡ false

-- none is left, or there is one, with its start
pub data Next : Type 0 where
  none : Next
  next : (start : ℕ) → Region → Next

-- the first span from an address on, and where to look on
pub record FirstSpan (region : (address : ℕ) → Region) (end from start : ℕ) (r : Region) : Type 0 where
  pub listing : spans_after region end from ≡ span_of end start r ∷ spans_after region end (start + span_at r.level)
  pub fresh : Fresh region (start + span_at r.level)
  pub page : (start + span_at r.level) % 4096 ≡ 0
  pub below : start < end
  pub high : (0 < r.level) × (r.level ≤ 6)

abbrev pub IsNext : (region : (address : ℕ) → Region) (end from : ℕ) → Next → Type 0
IsNext region end from none = spans_after region end from ≡ []
IsNext region end from (next start r) = FirstSpan region end from start r
