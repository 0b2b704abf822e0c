-- Rows that were filled with a listing: for the code's contracts.
use Rattle.std.specs.Prelude.{ℕ, min, Bool, List, ◌≡◌, ltb, length, take}
use Rattle.mapping.specs.Rows.{rows_of, laid_over}
use Rattle.mapping.specs.Spans.{Span}
use Rattle.mapping.specs.Told.{room}

pub record FilledWith (spans : List Span) (before after : List ℕ) (count : ℕ) (more : Bool) : Type 0 where
  pub counted : count ≡ min (room (length before)) (length spans)
  pub told : more ≡ ltb (room (length before)) (length spans)
  pub written : after ≡ laid_over (rows_of (take (room (length before)) spans)) before
