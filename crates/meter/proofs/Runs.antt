-- The claims over runs of ticks: each meter's load goes by its own counts.
use Prim.Native.Nat.{ℕ, zero, suc, ◌^◌, ◌≤◌, ◌<◌}
use mathlib.Core.Path.{◌≡◌, refl, ap, sym, ◌∙◌, subst}
use mathlib.Core.Bool.{Bool, true, false, cond, not, ◌&&◌, ◌||◌}
use mathlib.Core.List.{List, [], ◌∷◌, map}
use native.Mathlib.Omega.{arith}
use borrow.Author.Tests.{ltb-false}
use lib.Dec.{T, eqb, eqb→eq}
use lib.ListN.{length, get_or}
use lib.Ieee.{Float, le, of_bits, of_fields, odd}
use lib.Ieee.Exact.{HasValue}
use Rattle.meter.specs.declared.Gate.TheVariants.{Off}
use Rattle.meter.specs.declared.Meter.{Meter}
use Rattle.meter.specs.Meter.{nought, most, tick_load, ticked, meter_byte, cleared}
use Rattle.meter.specs.Refused.{some, bad_count, bad_load, bad_gate, bad_meter, tick_refused}
use Rattle.meter.specs.Row.{ticked_all}
use Rattle.meter.specs.Runs.{Tick, row_after, counts_at, meter_at, weighed_by_halving, FirstTicks, Decays, InRange, NeverAbove, StaysInRange, BytesTell}
use Rattle.meter.proofs.Exactly.{never, load_after, Counts, first-32, decays}
use Rattle.meter.proofs.Bounded.{stays-bounded}

-- ---- a meter of a row
pub ticked_all-length : (row : List Meter) (counts : List ℕ) → length (ticked_all row counts) ≡ length row
unfolding ticked_all
ticked_all-length [] counts = refl
ticked_all-length (m ∷ row) [] = refl
ticked_all-length (m ∷ row) (c ∷ counts) = ap suc (ticked_all-length row counts)

cleared-length : (row : List Meter) → length (map cleared row) ≡ length row
cleared-length [] = refl
cleared-length (m ∷ row) = ap suc (cleared-length row)

ticked-at : (row : List Meter) (counts : List ℕ) (place : ℕ) → length counts ≡ length row → place < length row
    → meter_at (ticked_all row counts) place ≡ ticked (meter_at row place) (get_or counts place 0)
unfolding ticked_all
ticked-at [] counts place same inside = absurd (omega arith)
ticked-at (m ∷ row) [] place same inside = absurd (omega arith)
ticked-at (m ∷ row) (c ∷ counts) zero same inside = refl
ticked-at (m ∷ row) (c ∷ counts) (suc place) same inside = ticked-at row counts place (omega arith) (omega arith)

cleared_at : (row : List Meter) (place : ℕ) → place < length row → (meter_at (map cleared row) place).load ≡ nought
cleared_at [] place inside = absurd (omega arith)
cleared_at (m ∷ row) zero inside = refl
cleared_at (m ∷ row) (suc place) inside = cleared_at row place (omega arith)

byte_at : (row : List Meter) (place : ℕ) → place < length row → get_or (map meter_byte row) place 0 ≡ meter_byte (meter_at row place)
byte_at [] place inside = absurd (omega arith)
byte_at (m ∷ row) zero inside = refl
byte_at (m ∷ row) (suc place) inside = byte_at row place (omega arith)

-- ---- what isn't refused
neither : (a b : Bool) → (a || b) ≡ false → (a ≡ false) × (b ≡ false)
neither true b h = never h
neither false b h = (refl, h)

both : (a b : Bool) → not (a && b) ≡ false → T a × T b
both true true h = (tt, tt)
both true false h = never h
both false b h = never h

none : {A : Type 0} (test : A → Bool) (xs : List A) (place : ℕ) (other : A) → some test xs ≡ false → place < length xs → test (get_or xs place other) ≡ false
unfolding some
none test [] place other h inside = absurd (omega arith)
none test (x ∷ xs) zero other h inside = (neither (test x) (some test xs) h).0
none test (x ∷ xs) (suc place) other h inside = none test xs place other (neither (test x) (some test xs) h).1 (omega arith)

module _ (row : List Meter) (counts bytes : List ℕ) (good : tick_refused row counts bytes ≡ false) where
  parts : (not (eqb (length counts) (length row) && eqb (length bytes) (length row)) ≡ false) × (some bad_count counts ≡ false) × (some bad_meter row ≡ false)
  parts =
      let lists = not (eqb (length counts) (length row) && eqb (length bytes) (length row)) in
      let rows = neither (lists || some bad_count counts) (some bad_meter row) good in
      let firsts = neither lists (some bad_count counts) rows.0 in
      (firsts.0, firsts.1, rows.1)

  pub same : length counts ≡ length row
  same = eqb→eq (length counts) (length row) (both (eqb (length counts) (length row)) (eqb (length bytes) (length row)) parts.0).0

  few : (place : ℕ) → place < length row → get_or counts place 0 ≤ 65535
  few place inside = ltb-false 65535 (get_or counts place 0) (none bad_count counts place 0 parts.1 (omega (arith, same, inside)))

  in-range : (place : ℕ) → place < length row → InRange (meter_at row place).load
  in-range place inside =
      let m = meter_at row place in
      both (le nought m.load) (le m.load most)
      (neither (bad_load m.load) (bad_gate m.gate) (none bad_meter row place (record { load = nought; gate = Off }) parts.2 inside)).0

  at_place : (place : ℕ) → place < length row → meter_at (ticked_all row counts) place ≡ ticked (meter_at row place) (get_or counts place 0)
  at_place place inside = ticked-at row counts place same inside

pub stays-in-range : StaysInRange
stays-in-range row counts bytes place good inside =
    subst (λ (m : Meter). InRange m.load) (sym (at_place row counts bytes good place inside))
    (stays-bounded (meter_at row place).load (get_or counts place 0) (in-range row counts bytes good place inside) (few row counts bytes good place inside))

pub bytes-tell : BytesTell
bytes-tell row counts bytes place good inside =
    ap (λ (t : Bool). get_or (cond {A = Bool × List Meter × List ℕ} t (false, row, bytes) (true, ticked_all row counts, map meter_byte (ticked_all row counts))).2 place 0) good
    ∙ byte_at (ticked_all row counts) place (subst (λ (n : ℕ). place < n) (sym (ticked_all-length row counts)) inside)
    ∙ ap meter_byte (at_place row counts bytes good place inside)

-- ---- a row after a reset and ticks
module _ (row : List Meter) where
  after-length : (ticks : List Tick) → length (row_after row ticks) ≡ length row
  unfolding row_after
  after-length [] = cleared-length row
  after-length (tick ∷ earlier) = go (tick_refused was tick.counts tick.bytes) (after-length earlier)
    where
      was : List Meter
      was = row_after row earlier

      go : (t : Bool) → length was ≡ length row → length (cond {A = Bool × List Meter × List ℕ} t (false, was, tick.bytes) (true, ticked_all was tick.counts, map meter_byte (ticked_all was tick.counts))).1 ≡ length row
      go true before = before
      go false before = ticked_all-length was tick.counts ∙ before

  module _ (place : ℕ) (inside : place < length row) where
    within : (earlier : List Tick) → place < length (row_after row earlier)
    within earlier = subst (λ (n : ℕ). place < n) (sym (after-length earlier)) inside

    load_after_lem : (ticks : List Tick) → (meter_at (row_after row ticks) place).load ≡ load_after (counts_at row place ticks)
    unfolding row_after counts_at load_after
    load_after_lem [] = cleared_at row place inside
    load_after_lem (tick ∷ earlier) = go (load_after_lem earlier) (tick_refused was tick.counts tick.bytes) refl
      where
        was : List Meter
        was = row_after row earlier

        go : (meter_at was place).load ≡ load_after (counts_at row place earlier) → (t : Bool) → tick_refused was tick.counts tick.bytes ≡ t
            → (meter_at (cond {A = Bool × List Meter × List ℕ} t (false, was, tick.bytes) (true, ticked_all was tick.counts, map meter_byte (ticked_all was tick.counts))).1 place).load
            ≡ load_after (cond t (counts_at row place earlier) (get_or tick.counts place 0 ∷ counts_at row place earlier))
        go before true e = before
        go before false e =
            ap (λ (m : Meter). m.load) (at_place was tick.counts tick.bytes e place (within earlier))
            ∙ ap (λ (x : Float). tick_load x (get_or tick.counts place 0)) before

    all-few : (ticks : List Tick) → Counts (counts_at row place ticks)
    unfolding counts_at Counts
    all-few [] = tt
    all-few (tick ∷ earlier) = go (all-few earlier) (tick_refused was tick.counts tick.bytes) refl
      where
        was : List Meter
        was = row_after row earlier

        go : Counts (counts_at row place earlier) → (t : Bool) → tick_refused was tick.counts tick.bytes ≡ t → Counts (cond t (counts_at row place earlier) (get_or tick.counts place 0 ∷ counts_at row place earlier))
        go before true e = before
        go before false e = (few was tick.counts tick.bytes e place (within earlier), before)

always : (counts : List ℕ) → Counts counts → InRange (load_after counts)
unfolding load_after Counts le of_bits of_fields odd
always [] h = (tt, tt)
always (c ∷ counts) h = stays-bounded (load_after counts) c (always counts h.1) h.0

-- ---- the claims
pub first-ticks : FirstTicks
first-ticks row ticks place inside short =
    subst (λ (x : Float). HasValue x false (weighed_by_halving 31 (counts_at row place ticks)) (2 ^ 31)) (sym (load_after_lem row place inside ticks))
    (first-32 (counts_at row place ticks) (all-few row place inside ticks) short)

pub decay : Decays
decay row ticks place count k inside deep run =
    subst (λ (x : Float). HasValue x false count (2 ^ k)) (sym (load_after_lem row place inside ticks ∙ ap load_after run))
    (decays count k (subst Counts run (all-few row place inside ticks)) deep)

pub never-above : NeverAbove
never-above row ticks place inside =
    subst InRange (sym (load_after_lem row place inside ticks)) (always (counts_at row place ticks) (all-few row place inside ticks))
