-- Rows filled span by span.
use Prim.Native.Nat.{ℕ, ◌+◌, ◌*◌, ◌≤◌}
use mathlib.Core.List.{List, [], ◌∷◌, ◌++◌, append_assoc}
use mathlib.Core.Path.{◌≡◌, refl, ap, sym, ◌∙◌}
use native.Mathlib.Omega.{arith}
use lib.ListN.{length, take, drop, length-append}
use lib.Seq.{take_at, drop-drop, drop-append-add}
use Rattle.dma.specs.InterruptRange.{span_at}
use Rattle.regions.specs.Region.{Region}
use Rattle.mapping.specs.Rows.{span_row, rows_of, laid_over}
use Rattle.mapping.specs.Search.{FirstSpan}
use Rattle.mapping.specs.Spans.{Span, span_of, spans_after}
use Rattle.mapping.specs.Told.{room}

pub rows_append : (a b : List Span) → rows_of (a ++ b) ≡ rows_of a ++ rows_of b
unfolding rows_of
rows_append [] b = refl
rows_append (s ∷ ss) b = ap (λ l. span_row s ++ l) (rows_append ss b) ∙ sym (append_assoc (span_row s) (rows_of ss) (rows_of b))

pub rows-length : (l : List Span) → length (rows_of l) ≡ 4 * length l
unfolding rows_of
rows-length [] = refl
rows-length (s ∷ ss) = let rest = rows-length ss in omega arith

-- so many spans from the first on stand in the rows, and the listing goes on from an address
pub record Done (region : (address : ℕ) → Region) (end : ℕ) (before after : List ℕ) (count from : ℕ) : Type 0 where
  pub spans : List Span
  pub parts : spans_after region end 0 ≡ spans ++ spans_after region end from
  pub counted : length spans ≡ count
  pub written : after ≡ rows_of spans ++ drop (4 * count) before

module _ (region : (address : ℕ) → Region) (end : ℕ) (before : List ℕ) where
  abbrev most : ℕ
  most = room (length before)

  abbrev all : List Span
  all = spans_after region end 0

  pub done_none : Done region end before before 0 0
  unfolding rows_of
  done_none = record { spans = []; parts = refl; counted = refl; written = refl }

  module _ {after : List ℕ} {count from : ℕ} (d : Done region end before after count from) where
    -- rows of as many spans as there is room for
    laid : {l : List Span} → l ≡ d.spans → after ≡ laid_over (rows_of l) before
    laid is = d.written ∙ rw (is, rows-length d.spans, d.counted)

    module _ {start : ℕ} {r : Region} (next : FirstSpan region end from start r) where
      abbrev span : Span
      span = span_of end start r

      abbrev rest : List Span
      rest = spans_after region end (start + span_at r.level)

      pub done_more : {after' : List ℕ} → 4 * count + 4 ≤ length before
          → after' ≡ take (4 * count) after ++ (span_row span ++ drop (4 * count + 4) after)
          → Done region end before after' (count + 1) (start + span_at r.level)
      unfolding rows_of
      done_more {after'} fits is =
          record {
            spans = d.spans ++ (span ∷ []);
            parts = d.parts ∙ ap (λ l. d.spans ++ l) next.listing ∙ sym (append_assoc d.spans (span ∷ []) rest);
            counted = length-append d.spans (span ∷ []) ∙ ap (λ (n : ℕ). n + 1) d.counted;
            written = row_more;
          }
        where
          head : length (rows_of d.spans) ≡ 4 * count
          head = rows-length d.spans ∙ ap (λ (n : ℕ). 4 * n) d.counted

          first : take (4 * count) after ≡ rows_of d.spans
          first = ap (take (4 * count)) d.written ∙ take_at (rows_of d.spans) (drop (4 * count) before) (4 * count) head

          last : drop (4 * count + 4) after ≡ drop (4 * count + 4) before
          last =
              ap (drop (4 * count + 4)) d.written
              ∙ ap (λ (n : ℕ). drop (n + 4) (rows_of d.spans ++ drop (4 * count) before)) (sym head)
              ∙ drop-append-add (rows_of d.spans) (drop (4 * count) before) 4
              ∙ drop-drop 4 (4 * count) before

          row_more : after' ≡ rows_of (d.spans ++ (span ∷ [])) ++ drop (4 * (count + 1)) before
          row_more =
              let four : 4 * (count + 1) ≡ 4 * count + 4 = omega arith in
              is
              ∙ rw (first, last, four, rows_append d.spans (span ∷ [])) (sym (append_assoc (rows_of d.spans) (span_row span) (drop (4 * count + 4) before)))
