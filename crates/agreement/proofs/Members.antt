-- The spans of a listing: where each begins, that none is left out, and their order; over any account of an address space in which every
-- address of a region has it.
use Prim.Native.Nat.{ℕ, zero, suc, ◌+◌, ◌-◌, ◌*◌, ◌/◌, ◌%◌, ◌≤◌, ◌<◌, min}
use mathlib.Core.Bool.{Bool, true, false, ◌&&◌}
use mathlib.Core.List.Memᴰ
use mathlib.Core.List.{List, [], ◌∷◌, ◌++◌, Memᴰ}
use mathlib.Core.Logic.{⊎_elim}
use mathlib.Core.Path.{◌≡◌, refl, sym, ◌∙◌, subst}
use native.Mathlib.Decide.{dec_le}
use native.Mathlib.Omega.{arith}
use borrow.Author.Tests.{eq-eqb, eqb-true}
use lib.Pow.{low, pow_pos}
use Rattle.std.specs.Prelude.{if◌then◌else◌}
use Rattle.image.proofs.Choices.{both as both_true}
use Rattle.dma.specs.InterruptRange.{span_at}
use Rattle.regions.specs.Region.{Region, is_listed}
use Rattle.mapping.specs.Spans.{Span, span_of, begins, span_here, spans_from}
use Rattle.mapping.proofs.SpanLaws.{same_block, offset-in}
use Rattle.agreement.specs.Claims.{InOrder}

in_left : {s : Span} (a b : List Span) → Memᴰ s a → Memᴰ s (a ++ b)
in_left [] b h = absurd (Memᴰ.not-nil h)
in_left (x ∷ a) b h = ⊎_elim (λ e. Memᴰ.head e) (λ t. Memᴰ.tail (in_left a b t)) (Memᴰ.cases_cons h)

in_right : {s : Span} (a b : List Span) → Memᴰ s b → Memᴰ s (a ++ b)
in_right [] b h = h
in_right (x ∷ a) b h = Memᴰ.tail (in_right a b h)

-- a span of ordered ones
pub from_on : (lower end : ℕ) (l : List Span) (s : Span) → InOrder lower end l → Memᴰ s l → lower ≤ s.start
unfolding InOrder
from_on lower end [] s order h = absurd (Memᴰ.not-nil h)
from_on lower end (x ∷ l) s order h =
    ⊎_elim (λ e. rw e order.0)
    (λ t. let later = from_on (x.start + x.size) end l s order.3 t in omega (arith, order.0, later)) (Memᴰ.cases_cons h)

-- of two parts of ordered ones, those of the first come first
pub first_part : (lower end : ℕ) (a b : List Span) (s t : Span) → InOrder lower end (a ++ b) → Memᴰ s a → Memᴰ t b
    → s.start + s.size ≤ t.start
unfolding InOrder
first_part lower end [] b s t order h k = absurd (Memᴰ.not-nil h)
first_part lower end (x ∷ a) b s t order h k =
    ⊎_elim (λ e. rw e (from_on (x.start + x.size) end (a ++ b) t order.3 (in_right a b k)))
    (λ m. first_part (x.start + x.size) end a b s t order.3 m k) (Memᴰ.cases_cons h)

module _ (region : (address : ℕ) → Region) (end : ℕ)
    (same : (x y : ℕ) → x / span_at (region x).level ≡ y / span_at (region x).level → region y ≡ region x) where
  abbrev here : (address : ℕ) → List Span
  here = span_here region end

  -- a span is the region of the address where it begins
  pub record Begun (s : Span) (from to : ℕ) : Type 0 where
    pub at : ℕ
    pub low : from ≤ at
    pub below : at < to
    pub is : s ≡ span_of end at (region at)
    pub on : is_listed (region at).what ≡ true
    pub aligned : at % span_at (region at).level ≡ 0

  at_once : (at : ℕ) (s : Span) → Memᴰ s (here at) → (s ≡ span_of end at (region at)) × (is_listed (region at).what ≡ true) × (at % span_at (region at).level ≡ 0)
  at_once at s = by (is_listed (region at).what && begins region end at) refl
    where
      by : (t : Bool) → (is_listed (region at).what && begins region end at) ≡ t → Memᴰ s (if t then span_of end at (region at) ∷ [] else [])
          → (s ≡ span_of end at (region at)) × (is_listed (region at).what ≡ true) × (at % span_at (region at).level ≡ 0)
      by true is h =
          let both = both_true (is_listed (region at).what) (begins region end at) is in
          (Memᴰ.eq_of_singleton h, both.0, eqb-true (at % span_at (region at).level) 0 both.1)
      by false is h = absurd (Memᴰ.not-nil h)

  pub begun : (n from : ℕ) (s : Span) → Memᴰ s (spans_from region end n from) → Begun s from (from + 4096 * n)
  unfolding spans_from
  begun zero from s h = absurd (Memᴰ.not-nil h)
  begun (suc n) from s h = ⊎_elim now (λ k. later (begun n (from + 4096) s k)) (Memᴰ.append_cases (here from) h)
    where
      now : Memᴰ s (here from) → Begun s from (from + 4096 * suc n)
      now k =
          let is = at_once from s k in
          record { at = from; low = omega arith; below = omega arith; is = is.0; on = is.1; aligned = is.2 }

      later : Begun s (from + 4096) (from + 4096 + 4096 * n) → Begun s from (from + 4096 * suc n)
      later b =
          record { at = b.at; low = omega (arith, b.low); below = omega (arith, b.below); is = b.is; on = b.on; aligned = b.aligned }

  -- and every such address has its span listed
  pub there : (n from at : ℕ) → from % 4096 ≡ 0 → at % 4096 ≡ 0 → from ≤ at → at < from + 4096 * n
      → is_listed (region at).what ≡ true → at % span_at (region at).level ≡ 0
      → Memᴰ (span_of end at (region at)) (spans_from region end n from)
  unfolding spans_from
  there zero from at page page' low top on aligned = absurd (omega arith)
  there (suc n) from at page page' low top on aligned =
      by (dec_le (from + 1) at) (λ more. there n (from + 4096) at (omega arith) page' more (omega arith) on aligned)
    where
      mine : Memᴰ (span_of end at (region at)) (here at)
      mine = rw (on, eq-eqb (at % span_at (region at).level) 0 aligned) (Memᴰ.head refl)

      by : Dec (from + 1 ≤ at) → (from + 4096 ≤ at → Memᴰ (span_of end at (region at)) (spans_from region end n (from + 4096)))
          → Memᴰ (span_of end at (region at)) (here from ++ spans_from region end n (from + 4096))
      by (yes later) ih = in_right (here from) (spans_from region end n (from + 4096)) (ih (omega arith))
      by (no now) ih =
          let is : at ≡ from = omega arith in
          in_left (here from) (spans_from region end n (from + 4096)) (subst (λ (f : ℕ). Memᴰ (span_of end at (region at)) (here f)) is mine)

  -- inside a region none begins
  none_inside : (at x : ℕ) → at % span_at (region at).level ≡ 0 → at < x → x < at + span_at (region at).level → here x ≡ []
  none_inside at x aligned more top = by (is_listed (region x).what && begins region end x) refl
    where
      k : ℕ
      k = 12 + 9 * ((region at).level - 1)

      by : (t : Bool) → (is_listed (region x).what && begins region end x) ≡ t → (if t then span_of end x (region x) ∷ [] else []) ≡ []
      by false is = refl
      by true is =
          let alike = same at x (same_block k at x aligned (omega arith) top) in
          let zero-off = eqb-true (x % span_at (region x).level) 0 (both_true (is_listed (region x).what) (begins region end x) is).1 in
          let off = offset-in k at x aligned (omega arith) top in
          absurd (omega (arith, more, off, subst (λ (r : Region). x % span_at r.level ≡ 0) alike zero-off))

  -- in order
  pub ordered : (n from lower : ℕ) → from + 4096 * n ≤ end → ((x : ℕ) → from ≤ x → x < lower → here x ≡ [])
      → InOrder lower end (spans_from region end n from)
  unfolding spans_from InOrder
  ordered zero from lower few none = tt
  ordered (suc n) from lower few none =
      by (is_listed (region from).what && begins region end from) refl (λ l. ordered n (from + 4096) l (omega arith))
    where
      S : ℕ
      S = span_at (region from).level

      Ih : Type 0
      Ih = (l : ℕ) → ((x : ℕ) → from + 4096 ≤ x → x < l → here x ≡ []) → InOrder l end (spans_from region end n (from + 4096))

      by : (t : Bool) → (is_listed (region from).what && begins region end from) ≡ t → Ih
          → InOrder lower end ((if t then span_of end from (region from) ∷ [] else []) ++ spans_from region end n (from + 4096))
      by false is ih = ih lower (λ x low top. none x (omega arith) top)
      by true is ih =
          let aligned = eqb-true (from % S) 0 (both_true (is_listed (region from).what) (begins region end from) is).1 in
          let some : 0 < S = pow_pos (12 + 9 * ((region from).level - 1)) in (
            first-free (dec_le (from + 1) lower),
            omega arith,
            omega arith,
            ih (from + min S (end - from)) (λ x low top. none_inside from x aligned (omega arith) (omega arith)),
          )
        where
          first-free : Dec (from + 1 ≤ lower) → lower ≤ from
          first-free (no e) = omega arith
          first-free (yes e) =
              let z : ◌≡◌ {A = List Span} (span_of end from (region from) ∷ []) [] = sym (rw is) ∙ none from (omega arith) (omega arith) in
              let y : ◌≡◌ {A = ℕ} 0 1 = cc in
              absurd (omega arith)
