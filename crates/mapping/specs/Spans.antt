-- The listing of an address space, over any account of what stands at its addresses.
use Rattle.std.specs.Prelude.{ℕ, zero, suc, ◌+◌, ◌-◌, ◌/◌, ◌%◌, min, Bool, ◌&&◌, List, [], ◌∷◌, ◌++◌, eqb}
use Rattle.std.specs.Prelude.{if◌then◌else◌}
use Rattle.dma.specs.InterruptRange.{span_at}
use Rattle.translation.specs.declared.Rights.{Rights}
use Rattle.regions.specs.Region.{What, Region, is_listed}

pub record Span : Type 0 where
  pub start : ℕ
  pub size : ℕ
  pub what : What
  pub rights : Rights

-- a region told as a span from an address, cut where the address space ends
abbrev pub span_of : (end start : ℕ) → Region → Span
span_of end start r = record { start = start; size = min (span_at r.level) (end - start); what = r.what; rights = r.rights }

module _ (region : (address : ℕ) → Region) (end : ℕ) where
  -- the region of an address begins there
  abbrev pub begins : (address : ℕ) → Bool
  begins address = eqb (address % span_at (region address).level) 0

  -- the span that begins at an address, if one does and something is listed there
  abbrev pub span_here : (address : ℕ) → List Span
  span_here address =
      if is_listed (region address).what && begins address then span_of end address (region address) ∷ [] else []

  -- those of so many places, 4 KiB apart, from an address on
  unfoldable pub spans_from : (places from : ℕ) → List Span
  spans_from zero from = []
  spans_from (suc n) from = span_here from ++ spans_from n (from + 4096)

  -- from an address on to the end
  abbrev pub spans_after : (from : ℕ) → List Span
  spans_after from = spans_from ((end - from) / 4096) from
