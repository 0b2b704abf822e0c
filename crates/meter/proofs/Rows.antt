-- A row that is looked at, and part way through the loop that ticks it: after i turns.
use Prim.Native.Nat.{ℕ, zero, suc, ◌<◌}
use mathlib.Core.Path.{◌≡◌, refl, ap, sym, ◌∙◌}
use mathlib.Core.Bool.{Bool, true, false, cond, not, ◌&&◌, ◌||◌}
use mathlib.Core.List.{List, [], ◌∷◌, map}
use native.Mathlib.Omega.{arith}
use borrow.Author.Tests.{not-true, not-false}
use lib.Dec.{T, eqb, eqb→eq}
use lib.ListN.{length, get_or, set}
use Rattle.std.specs.List.{zip, list_all}
use Rattle.meter.specs.declared.Meter.{Meter}
use Rattle.meter.specs.Meter.{ticked, meter_byte}
use Rattle.meter.specs.Refused.{some, bad_count, bad_meter}
use Rattle.meter.specs.Row.{ticked_all, tick_row}
use Rattle.meter.proofs.Exactly.{never}

abbrev pub fit : Meter → ℕ → Bool
fit meter count = not (bad_count count || bad_meter meter)

-- the first i are ticked
unfoldable pub steps : ℕ → List Meter → List ℕ → List Meter
steps zero ms cs = ms
steps (suc i) [] cs = []
steps (suc i) (m ∷ ms) [] = m ∷ ms
steps (suc i) (m ∷ ms) (c ∷ cs) = ticked m c ∷ steps i ms cs

-- and their bytes written
unfoldable pub marks : ℕ → List Meter → List ℕ → List ℕ → List ℕ
marks zero ms cs bs = bs
marks (suc i) [] cs bs = bs
marks (suc i) (m ∷ ms) [] bs = bs
marks (suc i) (m ∷ ms) (c ∷ cs) [] = []
marks (suc i) (m ∷ ms) (c ∷ cs) (b ∷ bs) = meter_byte (ticked m c) ∷ marks i ms cs bs

pub steps-length : (i : ℕ) (ms : List Meter) (cs : List ℕ) → length (steps i ms cs) ≡ length ms
unfolding steps
steps-length zero ms cs = refl
steps-length (suc i) [] cs = refl
steps-length (suc i) (m ∷ ms) [] = refl
steps-length (suc i) (m ∷ ms) (c ∷ cs) = ap suc (steps-length i ms cs)

pub marks-length : (i : ℕ) (ms : List Meter) (cs bs : List ℕ) → length (marks i ms cs bs) ≡ length bs
unfolding marks
marks-length zero ms cs bs = refl
marks-length (suc i) [] cs bs = refl
marks-length (suc i) (m ∷ ms) [] bs = refl
marks-length (suc i) (m ∷ ms) (c ∷ cs) [] = refl
marks-length (suc i) (m ∷ ms) (c ∷ cs) (b ∷ bs) = ap suc (marks-length i ms cs bs)

pub steps_next : (i : ℕ) (ms : List Meter) (cs : List ℕ) (d : Meter) → i < length ms → i < length cs
    → set (steps i ms cs) i (ticked (get_or (steps i ms cs) i d) (get_or cs i 0)) ≡ steps (suc i) ms cs
unfolding steps
steps_next i [] cs d l k = absurd (omega arith)
steps_next i (m ∷ ms) [] d l k = absurd (omega arith)
steps_next zero (m ∷ ms) (c ∷ cs) d l k = refl
steps_next (suc i) (m ∷ ms) (c ∷ cs) d l k = ap (λ (t : List Meter). ticked m c ∷ t) (steps_next i ms cs d (omega arith) (omega arith))

pub marks-next : (i : ℕ) (ms : List Meter) (cs bs : List ℕ) (d : Meter) → i < length ms → i < length cs → i < length bs
    → set (marks i ms cs bs) i (meter_byte (ticked (get_or (steps i ms cs) i d) (get_or cs i 0))) ≡ marks (suc i) ms cs bs
unfolding steps marks
marks-next i [] cs bs d l k h = absurd (omega arith)
marks-next i (m ∷ ms) [] bs d l k h = absurd (omega arith)
marks-next i (m ∷ ms) (c ∷ cs) [] d l k h = absurd (omega arith)
marks-next zero (m ∷ ms) (c ∷ cs) (b ∷ bs) d l k h = refl
marks-next (suc i) (m ∷ ms) (c ∷ cs) (b ∷ bs) d l k h =
    ap (λ (t : List ℕ). meter_byte (ticked m c) ∷ t) (marks-next i ms cs bs d (omega arith) (omega arith) (omega arith))

-- ---- after all turns
shuffle : (a b c d : Bool) → (not (a || b) && not (c || d)) ≡ not ((a || c) || (b || d))
shuffle true b c d = refl
shuffle false true true d = refl
shuffle false true false d = refl
shuffle false false true d = refl
shuffle false false false d = refl

-- all fit: no count is bad, and no meter
pub fits_all : (ms : List Meter) (cs : List ℕ) → length cs ≡ length ms
    → list_all (λ (p : Meter × ℕ). fit p.0 p.1) (zip ms cs) ≡ not (some bad_count cs || some bad_meter ms)
unfolding some
fits_all [] [] same = refl
fits_all [] (c ∷ cs) same = absurd (omega arith)
fits_all (m ∷ ms) [] same = absurd (omega arith)
fits_all (m ∷ ms) (c ∷ cs) same =
    ap (λ (t : Bool). fit m c && t) (fits_all ms cs (omega arith)) ∙ shuffle (bad_count c) (bad_meter m) (some bad_count cs) (some bad_meter ms)

pub steps_all : (ms : List Meter) (cs : List ℕ) → steps (length ms) ms cs ≡ ticked_all ms cs
unfolding steps ticked_all
steps_all [] cs = refl
steps_all (m ∷ ms) [] = refl
steps_all (m ∷ ms) (c ∷ cs) = ap (λ (t : List Meter). ticked m c ∷ t) (steps_all ms cs)

pub marks-all : (ms : List Meter) (cs bs : List ℕ) → length cs ≡ length ms → length bs ≡ length ms → marks (length ms) ms cs bs ≡ map meter_byte (ticked_all ms cs)
unfolding marks ticked_all
marks-all [] cs [] same one = refl
marks-all [] cs (b ∷ bs) same one = absurd (omega arith)
marks-all (m ∷ ms) [] bs same one = absurd (omega arith)
marks-all (m ∷ ms) (c ∷ cs) [] same one = absurd (omega arith)
marks-all (m ∷ ms) (c ∷ cs) (b ∷ bs) same one = ap (λ (t : List ℕ). meter_byte (ticked m c) ∷ t) (marks-all ms cs bs (omega arith) (omega arith))

holds : (t : Bool) → t ≡ true → T t
holds true _ = tt
holds false e = never (sym e)

pub both_true : (a b : Bool) → (a && b) ≡ true → (a ≡ true) × (b ≡ true)
both_true true b e = (refl, e)
both_true false b e = never (sym e)

module _ (ms : List Meter) (cs bs : List ℕ) where
  -- counts and bytes are one per meter
  abbrev pub even : Bool
  even = eqb (length cs) (length ms) && eqb (length bs) (length ms)

  pub lengths : even ≡ true → (length cs ≡ length ms) × (length bs ≡ length ms)
  lengths e =
      let parts = both_true (eqb (length cs) (length ms)) (eqb (length bs) (length ms)) e in
      (eqb→eq (length cs) (length ms) (holds (eqb (length cs) (length ms)) parts.0), eqb→eq (length bs) (length ms) (holds (eqb (length bs) (length ms)) parts.1))

  abbrev kept : Bool × List Meter × List ℕ
  kept = (false, ms, bs)

  abbrev done : Bool × List Meter × List ℕ
  done = (true, ticked_all ms cs, map meter_byte (ticked_all ms cs))

  abbrev bads : Bool
  bads = some bad_count cs || some bad_meter ms

  judged : (g : Bool) → even ≡ g → cond (not g || some bad_count cs || some bad_meter ms) kept done ≡ tick_row ms cs bs
  judged g e = sym (ap (λ (t : Bool). cond (not t || some bad_count cs || some bad_meter ms) kept done) e)

  pub uneven : even ≡ false → kept ≡ tick_row ms cs bs
  uneven e = judged false e

  pub one-bad : even ≡ true → not bads ≡ false → kept ≡ tick_row ms cs bs
  one-bad e f = sym (ap (λ (t : Bool). cond t kept done) (not-false bads f)) ∙ judged true e

  pub all-good : even ≡ true → not bads ≡ true → done ≡ tick_row ms cs bs
  all-good e f = sym (ap (λ (t : Bool). cond t kept done) (not-true bads f)) ∙ judged true e
