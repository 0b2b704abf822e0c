-- Meters held in arrays are the row that they spell.
use Prim.Native.Nat.{ℕ, zero, suc, ◌+◌, ◌<◌}
use mathlib.Core.Path.{◌≡◌, refl, ap, ap₂, sym, ◌∙◌, subst}
use mathlib.Core.Bool.{Bool, true, false, cond, not, ◌&&◌, ◌||◌}
use mathlib.Core.List.{List, [], ◌∷◌, map}
use native.Mathlib.Omega.{arith}
use lib.Dec.{T, eqb, eqb→eq}
use lib.ListN.{length, get_or, set, drop}
use lib.Ieee.{Float}
use Rattle.std.specs.List.{zip, list_all, list_any, fold, range_with_len}
use Rattle.std.proofs.lemmas.List.Folds.{list_all-map, list_all-append}
use Rattle.std.proofs.lemmas.List.FromFn.{fill_by_all, map-range_with_len_more}
use Rattle.std.proofs.lemmas.Slice.Zip.{length-zip, get_or-zip}
use Rattle.meter.specs.declared.Meter.{Meter}
use Rattle.meter.specs.Meter.{nought, ticked, meter_byte}
use Rattle.meter.specs.Refused.{some, bad_count, bad_meter}
use Rattle.meter.specs.Row.{ticked_all, tick_row}
use Rattle.meter.proofs.Rows as rows
use Rattle.meter.proofs.Rows.{fit, steps, marks, steps-length, steps_next, marks-next, fits_all, steps_all, marks-all, both_true, even}
use Rattle.packing.specs.Status.{ok, bad_meters, meters_refused}
use Rattle.meter.specs.declared.Gate.TheVariants.{Off}
use Rattle.galitzaf.specs.Meters.{meter_of, row_of, loads_of, malformed_meters, tick_status, tick_meters_call}

-- one place for each meter in every array
pub record Matched (ks : List ℕ) (ls hs xs : List Float) (cs bs : List ℕ) : Type 0 where
  pub kinds : length ks ≡ length xs
  pub lows : length ls ≡ length xs
  pub highs : length hs ≡ length xs
  pub counts : length cs ≡ length xs
  pub bytes : length bs ≡ length xs

-- a meter for a place that is never read
abbrev none : Meter
none = record { load = nought; gate = Off }

-- a test that some of a list pass, as the library has it
pub some_is_any : {A : Type 0} (test : A → Bool) (xs : List A) → list_any test xs ≡ some test xs
unfolding some
some_is_any test [] = refl
some_is_any test (x ∷ xs) = ap (λ (t : Bool). test x || t) (some_is_any test xs)

-- likewise where all of the list are looked at
pub some_is_fold : {A : Type 0} (test : A → Bool) (so_far : Bool) (xs : List A) → fold (λ (t : Bool) (x : A). t || test x) so_far xs ≡ (so_far || some test xs)
unfolding some
some_is_fold test true [] = refl
some_is_fold test false [] = refl
some_is_fold test true (x ∷ xs) = some_is_fold test true xs
some_is_fold test false (x ∷ xs) = some_is_fold test (test x) xs

-- a test of one number more
pub all_more : (f : ℕ → Bool) (n : ℕ) → (list_all f (range_with_len 0 n) && f n) ≡ list_all f (range_with_len 0 (n + 1))
all_more f n =
    let id : Bool → Bool = λ b. b in
    sym (sym (list_all-map id f (range_with_len 0 (n + 1)))
    ∙ ap (list_all id) (map-range_with_len_more f 0 n n (omega arith))
    ∙ list_all-append id (map f (range_with_len 0 n)) (f n ∷ [])
    ∙ ap₂ (λ (s t : Bool). s && t) (list_all-map id f (range_with_len 0 n)) (alone (f n)))
  where
    alone : (b : Bool) → (b && true) ≡ b
    alone true = refl
    alone false = refl

-- ---- the row
pub row-length : (ks : List ℕ) (ls hs xs : List Float) → length (row_of ks ls hs xs) ≡ length xs
unfolding row_of
row-length ks ls hs [] = refl
row-length ks ls hs (x ∷ xs) = ap suc (row-length (drop 1 ks) (drop 1 ls) (drop 1 hs) xs)

pub row-loads : (ks : List ℕ) (ls hs xs : List Float) → loads_of (row_of ks ls hs xs) ≡ xs
unfolding row_of
row-loads ks ls hs [] = refl
row-loads ks ls hs (x ∷ xs) = ap (λ (t : List Float). x ∷ t) (row-loads (drop 1 ks) (drop 1 ls) (drop 1 hs) xs)

later : {A : Type 0} (ys : List A) (i : ℕ) (d : A) → suc i < length ys → get_or (drop 1 ys) i d ≡ get_or ys (suc i) d
later [] i d l = absurd (omega arith)
later (y ∷ ys) i d l = refl

shorter : {A : Type 0} (ys : List A) (n : ℕ) → length ys ≡ suc n → length (drop 1 ys) ≡ n
shorter [] n e = absurd (omega arith)
shorter (y ∷ ys) n e = omega arith

-- a read of a place of a list doesn't depend on what stands for places outside
same_read : {A : Type 0} (ys : List A) (i : ℕ) (d e : A) → i < length ys → get_or ys i d ≡ get_or ys i e
same_read [] i d e l = absurd (omega arith)
same_read (y ∷ ys) zero d e l = refl
same_read (y ∷ ys) (suc i) d e l = same_read ys i d e (omega arith)

pub row_at : (ks : List ℕ) (ls hs xs : List Float) (i : ℕ) (d : Float) (e : Meter) → length ks ≡ length xs → length ls ≡ length xs → length hs ≡ length xs → i < length xs
    → meter_of (get_or ks i 0) (get_or ls i d) (get_or hs i d) (get_or xs i d) ≡ get_or (row_of ks ls hs xs) i e
unfolding row_of
row_at ks ls hs [] i d e a b c l = absurd (omega arith)
row_at ks ls hs (x ∷ xs) zero d e a b c l =
    ap₂ (λ (low high : Float). meter_of (get_or ks 0 0) low high x) (same_read ls 0 d nought (omega (arith, b))) (same_read hs 0 d nought (omega (arith, c)))
row_at ks ls hs (x ∷ xs) (suc i) d e a b c l =
    ap (λ (kind : ℕ). meter_of kind (get_or ls (suc i) d) (get_or hs (suc i) d) (get_or xs i d)) (sym (later ks i 0 (omega (arith, a, l))))
    ∙ ap₂ (λ (low high : Float). meter_of (get_or (drop 1 ks) i 0) low high (get_or xs i d)) (sym (later ls i d (omega (arith, b, l)))) (sym (later hs i d (omega (arith, c, l))))
    ∙ row_at (drop 1 ks) (drop 1 ls) (drop 1 hs) xs i d e (shorter ks (length xs) a) (shorter ls (length xs) b) (shorter hs (length xs) c) (omega arith)

-- ---- part way through the ticks
load_at : (row : List Meter) (i : ℕ) (d : Float) (e : Meter) → i < length row → get_or (loads_of row) i d ≡ (get_or row i e).load
load_at [] i d e l = absurd (omega arith)
load_at (m ∷ row) zero d e l = refl
load_at (m ∷ row) (suc i) d e l = load_at row i d e (omega arith)

load_set : (row : List Meter) (i : ℕ) (m : Meter) → set (loads_of row) i m.load ≡ loads_of (set row i m)
load_set [] i m = refl
load_set (n ∷ row) zero m = refl
load_set (n ∷ row) (suc i) m = ap (λ (t : List Float). n.load ∷ t) (load_set row i m)

-- the ticks so far leave the meter at i as it was
untouched : (i : ℕ) (ms : List Meter) (cs : List ℕ) (e : Meter) → get_or (steps i ms cs) i e ≡ get_or ms i e
unfolding steps
untouched zero ms cs e = refl
untouched (suc i) [] cs e = refl
untouched (suc i) (m ∷ ms) [] e = refl
untouched (suc i) (m ∷ ms) (c ∷ cs) e = untouched i ms cs e

pub one_more : (i : ℕ) → suc i ≡ i + 1
one_more i = omega arith

-- one turn of the loop that looks, and one of the loop that ticks
module _ (ks : List ℕ) (ls hs xs : List Float) (cs bs : List ℕ) (a : length ks ≡ length xs) (b : length ls ≡ length xs) (c : length hs ≡ length xs) (e : length cs ≡ length xs) (i : ℕ) (l : i < length xs) (d : Float) where
  abbrev here : Meter
  here = meter_of (get_or ks i 0) (get_or ls i d) (get_or hs i d) (get_or xs i d)

  in_row : i < length (row_of ks ls hs xs)
  in_row = subst (λ (n : ℕ). i < n) (sym (row-length ks ls hs xs)) l

  in-counts : i < length cs
  in-counts = subst (λ (n : ℕ). i < n) (sym e) l

  module _ {ys : List Float} (at : ys ≡ loads_of (steps i (row_of ks ls hs xs) cs)) {m n : Meter} (is : m ≡ meter_of (get_or ks i 0) (get_or ls i d) (get_or hs i d) (get_or ys i d)) (f : n ≡ ticked m (get_or cs i 0)) where
    same : m ≡ get_or (steps i (row_of ks ls hs xs) cs) i none
    same =
        is
        ∙ ap (λ (load : Float). meter_of (get_or ks i 0) (get_or ls i d) (get_or hs i d) load)
        (ap (λ (zs : List Float). get_or zs i d) at
        ∙ load_at (steps i (row_of ks ls hs xs) cs) i d none (subst (λ (k : ℕ). i < k) (sym (steps-length i (row_of ks ls hs xs) cs)) in_row)
        ∙ ap (λ (z : Meter). z.load) (untouched i (row_of ks ls hs xs) cs none ∙ sym (row_at ks ls hs xs i d none a b c l)))
        ∙ row_at ks ls hs xs i d none a b c l
        ∙ sym (untouched i (row_of ks ls hs xs) cs none)

    new : n ≡ ticked (get_or (steps i (row_of ks ls hs xs) cs) i none) (get_or cs i 0)
    new = f ∙ ap (λ (z : Meter). ticked z (get_or cs i 0)) same

    pub loads-next : set ys i n.load ≡ loads_of (steps (i + 1) (row_of ks ls hs xs) cs)
    loads-next =
        ap (λ (zs : List Float). set zs i n.load) at
        ∙ load_set (steps i (row_of ks ls hs xs) cs) i n
        ∙ ap (λ (z : Meter). loads_of (set (steps i (row_of ks ls hs xs) cs) i z)) new
        ∙ ap loads_of (steps_next i (row_of ks ls hs xs) cs none in_row in-counts)
        ∙ ap (λ (j : ℕ). loads_of (steps j (row_of ks ls hs xs) cs)) (one_more i)

    pub bytes_next : {zs : List ℕ} {r : ℕ} → i < length bs → zs ≡ marks i (row_of ks ls hs xs) cs bs → r ≡ meter_byte n → set zs i r ≡ marks (i + 1) (row_of ks ls hs xs) cs bs
    bytes_next {zs} {r} k h g =
        ap₂ (λ (us : List ℕ) (u : ℕ). set us i u) h (g ∙ ap meter_byte new)
        ∙ marks-next i (row_of ks ls hs xs) cs bs none in_row in-counts k
        ∙ ap (λ (j : ℕ). marks j (row_of ks ls hs xs) cs bs) (one_more i)

-- ---- the whole call
unlike : {A : Type 0} → true ≡ false → A
unlike h = let z : ◌≡◌ {A = ℕ} 0 1 = cc in absurd (omega arith)

module _ (ks : List ℕ) (ls hs xs : List Float) (cs bs : List ℕ) where
  abbrev row : List Meter
  row = row_of ks ls hs xs

  abbrev kept : ℕ × List Float × List ℕ
  kept = (meters_refused, xs, bs)

  lists : (g : Bool) → (eqb (length cs) (length xs) && eqb (length bs) (length xs)) ≡ g → even row cs bs ≡ g
  lists g e = ap (λ (n : ℕ). eqb (length cs) n && eqb (length bs) n) (row-length ks ls hs xs) ∙ e

  called : {o : Bool × List Meter × List ℕ} → malformed_meters ks ls hs xs ≡ false → o ≡ tick_row row cs bs → tick_status o ≡ tick_meters_call ks ls hs xs cs bs
  called good is = ap tick_status is ∙ sym (ap (λ (t : Bool). cond {A = ℕ × List Float × List ℕ} t (bad_meters, xs, bs) (tick_status (tick_row row cs bs))) good)

  left : kept ≡ tick_status (false, row, bs)
  left = ap (λ (ys : List Float). told-as ys) (sym (row-loads ks ls hs xs))
    where
      told-as : List Float → ℕ × List Float × List ℕ
      told-as ys = (meters_refused, ys, bs)

  pub bad-row : malformed_meters ks ls hs xs ≡ true → ◌≡◌ {A = ℕ × List Float × List ℕ} (bad_meters, xs, bs) (tick_meters_call ks ls hs xs cs bs)
  bad-row bad = sym (ap (λ (t : Bool). cond {A = ℕ × List Float × List ℕ} t (bad_meters, xs, bs) (tick_status (tick_row row cs bs))) bad)

  pub uneven : malformed_meters ks ls hs xs ≡ false → (eqb (length cs) (length xs) && eqb (length bs) (length xs)) ≡ false → kept ≡ tick_meters_call ks ls hs xs cs bs
  uneven good e = left ∙ called good (rows.uneven row cs bs (lists false e))

  pub unfit : malformed_meters ks ls hs xs ≡ false → (eqb (length cs) (length xs) && eqb (length bs) (length xs)) ≡ true → not (some bad_count cs || some bad_meter row) ≡ false → kept ≡ tick_meters_call ks ls hs xs cs bs
  unfit good e f = left ∙ called good (rows.one-bad row cs bs (lists true e) f)

  pub all-ticked : malformed_meters ks ls hs xs ≡ false → (eqb (length cs) (length xs) && eqb (length bs) (length xs)) ≡ true → not (some bad_count cs || some bad_meter row) ≡ true
      → {ys : List Float} {zs : List ℕ} → ys ≡ loads_of (ticked_all row cs) → zs ≡ map meter_byte (ticked_all row cs) → ◌≡◌ {A = ℕ × List Float × List ℕ} (ok, ys, zs) (tick_meters_call ks ls hs xs cs bs)
  all-ticked good e f {ys} {zs} g h = ap₂ (λ (us : List Float) (vs : List ℕ). answer us vs) g h ∙ called good (rows.all-good row cs bs (lists true e) f)
    where
      answer : List Float → List ℕ → ℕ × List Float × List ℕ
      answer us vs = (ok, us, vs)

  -- the row with its counts, place by place, and whether all fit
  pub all-looked : length ks ≡ length xs → length ls ≡ length xs → length hs ≡ length xs → length cs ≡ length xs → (d : Float)
      → list_all (λ i. fit (meter_of (get_or ks i 0) (get_or ls i d) (get_or hs i d) (get_or xs i d)) (get_or cs i 0)) (range_with_len 0 (length xs))
      ≡ not (some bad_count cs || some bad_meter row)
  all-looked a b c e d =
      let place : ℕ → Meter × ℕ = λ i. (meter_of (get_or ks i 0) (get_or ls i d) (get_or hs i d) (get_or xs i d), get_or cs i 0) in
      let fits : Meter × ℕ → Bool = λ p. fit p.0 p.1 in
      let rows = row-length ks ls hs xs in
      let long : length (zip row cs) ≡ length xs = omega (arith, length-zip row cs) in
      let pairs : zip row cs ≡ map place (range_with_len 0 (length xs)) =
      fill_by_all place (zip row cs) (length xs) (none, 0) long
      (λ i l. get_or-zip row cs i (none, 0) (omega arith) (omega arith) ∙ ap (λ (m : Meter). (m, get_or cs i 0)) (sym (row_at ks ls hs xs i d none a b c l))) in
      sym (list_all-map fits place (range_with_len 0 (length xs))) ∙ ap (list_all fits) (sym pairs) ∙ fits_all row cs (e ∙ sym rows)

  -- after all turns of the loop
  pub loads-all : loads_of (steps (length xs) row cs) ≡ loads_of (ticked_all row cs)
  loads-all = ap loads_of (ap (λ (n : ℕ). steps n row cs) (sym (row-length ks ls hs xs)) ∙ steps_all row cs)

  pub bytes-all : length cs ≡ length xs → length bs ≡ length xs → marks (length xs) row cs bs ≡ map meter_byte (ticked_all row cs)
  bytes-all e f = ap (λ (n : ℕ). marks n row cs bs) (sym (row-length ks ls hs xs)) ∙ marks-all row cs bs (e ∙ sym (row-length ks ls hs xs)) (f ∙ sym (row-length ks ls hs xs))

  -- what a well-formed row and even lists say of the lengths
  holds : (t : Bool) → t ≡ true → T t
  holds true _ = tt
  holds false e = unlike (sym e)

  none_of : (s t : Bool) → (not s || t) ≡ false → s ≡ true
  none_of true t e = refl
  none_of false t e = unlike e

  pub matched : malformed_meters ks ls hs xs ≡ false → (eqb (length cs) (length xs) && eqb (length bs) (length xs)) ≡ true → Matched ks ls hs xs cs bs
  matched good e =
      let all = none_of (eqb (length ks) (length xs) && eqb (length ls) (length xs) && eqb (length hs) (length xs)) _ good in
      let three = both_true (eqb (length ks) (length xs) && eqb (length ls) (length xs)) (eqb (length hs) (length xs)) all in
      let two = both_true (eqb (length ks) (length xs)) (eqb (length ls) (length xs)) three.0 in
      let others = both_true (eqb (length cs) (length xs)) (eqb (length bs) (length xs)) e in
      record {
        kinds = eqb→eq (length ks) (length xs) (holds _ two.0);
        lows = eqb→eq (length ls) (length xs) (holds _ two.1);
        highs = eqb→eq (length hs) (length xs) (holds _ three.1);
        counts = eqb→eq (length cs) (length xs) (holds _ others.0);
        bytes = eqb→eq (length bs) (length xs) (holds _ others.1);
      }

pub taken : (t : Bool) → not t ≡ true → t ≡ false
taken true e = unlike (sym e)
taken false e = refl

pub not_taken : (t : Bool) → not t ≡ false → t ≡ true
not_taken true e = refl
not_taken false e = unlike e
