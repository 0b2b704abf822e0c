-- None is named exactly where neither registers nor windows are refused: a part of a list of windows that isn't refused isn't refused.
use Prim.Native.Nat.{ℕ, zero, suc, ◌%◌, ◌≤◌}
use mathlib.Core.Bool.{Bool, true, false, not, ◌||◌}
use mathlib.Core.List.{List, [], ◌∷◌}
use mathlib.Core.Path.{◌≡◌, refl, ap}
use native.Mathlib.Omega.{arith}
use native.Mathlib.Decide.{dec_le}
use borrow.Author.Tests.{ltb-false, le-ltb, eq-eqb}
use lib.Dec.{eqb, ltb}
use lib.ListN.{length, take, length-take}
use lib.Seq.{take_all}
use Rattle.std.specs.Prelude.{if◌then◌else◌}
use Rattle.image.specs.Windows.{Window, windows_of, bad_window, bad_pair, bad_with_any, bad_list, bad_numbers, bad_windows}
use Rattle.image.proofs.Choices.{neither, nor}
use Rattle.registers.specs.Registers.{outside, bad_table, registers_bad}
use Rattle.registers.specs.declared.Registers.{Registers}
use Rattle.refused.specs.FirstBad.{first_bad_register, first_bad_window, first_bad, NoneBad}

-- the numbers of so many windows
triples : ℕ → ℕ
triples zero = 0
triples (suc k) = suc (suc (suc (triples k)))

with-any : (w : Window) (k : ℕ) (numbers : List ℕ) → bad_with_any w (windows_of numbers) ≡ false
    → bad_with_any w (windows_of (take (triples k) numbers)) ≡ false
unfolding bad_with_any windows_of triples
with-any w zero numbers h = refl
with-any w (suc k) [] h = refl
with-any w (suc k) (s ∷ []) h = refl
with-any w (suc k) (s ∷ p ∷ []) h = refl
with-any w (suc k) (s ∷ p ∷ n ∷ rest) h =
    let v : Window = record { start = s; place = p; size = n } in
    let each = neither (bad_pair w v) (bad_with_any w (windows_of rest)) h in
    nor (bad_pair w v) (bad_with_any w (windows_of (take (triples k) rest))) each.0 (with-any w k rest each.1)

in_list : (k : ℕ) (numbers : List ℕ) (run : ℕ) → bad_list (windows_of numbers) run ≡ false
    → bad_list (windows_of (take (triples k) numbers)) run ≡ false
unfolding bad_list windows_of triples
in_list zero numbers run h = refl
in_list (suc k) [] run h = refl
in_list (suc k) (s ∷ []) run h = refl
in_list (suc k) (s ∷ p ∷ []) run h = refl
in_list (suc k) (s ∷ p ∷ n ∷ rest) run h =
    let w : Window = record { start = s; place = p; size = n } in
    let part = windows_of (take (triples k) rest) in
    let each = neither (bad_window w run || bad_with_any w (windows_of rest)) (bad_list (windows_of rest) run) h in
    let alone = neither (bad_window w run) (bad_with_any w (windows_of rest)) each.0 in
    let kept = nor (bad_window w run) (bad_with_any w part) alone.0 (with-any w k rest alone.1) in
    nor (bad_window w run || bad_with_any w part) (bad_list part run) kept (in_list k rest run each.1)

whole : (k : ℕ) → triples k % 3 ≡ 0
unfolding triples
whole zero = refl
whole (suc k) = let rest = whole k in omega arith

counted : (k : ℕ) (numbers : List ℕ) → bad_numbers (length numbers) ≡ false → bad_numbers (length (take (triples k) numbers)) ≡ false
counted k numbers h = go (dec_le (length numbers) (triples k))
  where
    each : (ltb 12 (length numbers) ≡ false) × (not (eqb (length numbers % 3) 0) ≡ false)
    each = neither _ _ h

    go : Dec (length numbers ≤ triples k) → bad_numbers (length (take (triples k) numbers)) ≡ false
    go (yes all) = rw (take_all (triples k) numbers all) h
    go (no part) =
        let long : length (take (triples k) numbers) ≡ triples k = simp length-take (omega arith) in
        let few : length numbers ≤ 12 = ltb-false _ _ each.0 in
        rw long (nor _ _ (le-ltb 12 (triples k) (omega arith)) (ap not (eq-eqb _ _ (whole k))))

part-good : (k : ℕ) (numbers : List ℕ) (run : ℕ) → bad_windows numbers run ≡ false
    → bad_windows (take (triples k) numbers) run ≡ false
unfolding bad_windows
part-good k numbers run h =
    let each = neither _ _ h in
    nor _ _ (counted k numbers each.0) (in_list k numbers run each.1)

six : (a b c d e f : Bool)
    → eqb (if a then 1 else if b then 2 else if c then 3 else if d then 4 else if e then 5 else if f then 6 else 0) 0
    ≡ not (a || b || c || d || e || f)
six true b c d e f = refl
six false true c d e f = refl
six false false true d e f = refl
six false false false true e f = refl
six false false false false true f = refl
six false false false false false true = refl
six false false false false false false = refl

five : (a b c d e : Bool) → (e ≡ false → a ≡ false) → (e ≡ false → b ≡ false) → (e ≡ false → c ≡ false) → (e ≡ false → d ≡ false)
    → eqb (if a then 8 else if b then 9 else if c then 10 else if d then 11 else if e then 12 else 0) 0 ≡ not e
five a b c d false p q r s = rw (p refl, q refl, r refl, s refl)
five true b c d true p q r s = refl
five false true c d true p q r s = refl
five false false true d true p q r s = refl
five false false false true true p q r s = refl
five false false false false true p q r s = refl

no_register : (r : Registers) → eqb (first_bad_register r) 0 ≡ not (registers_bad r)
unfolding first_bad_register registers_bad
no_register r =
    six (outside r.haw 36 52) (outside r.mgaw 39 57) (not (r.levels3 || r.levels4 || r.levels5))
    (bad_table r.haw r.root_table) (bad_table r.haw r.interrupt_table) (outside r.s 0 15)

no-window : (numbers : List ℕ) (run : ℕ) → eqb (first_bad_window numbers run) 0 ≡ not (bad_windows numbers run)
unfolding first_bad_window triples
no-window numbers run =
    five (bad_windows (take 3 numbers) run) (bad_windows (take 6 numbers) run) (bad_windows (take 9 numbers) run)
    (bad_windows (take 12 numbers) run) (bad_windows numbers run)
    (part-good 1 numbers run) (part-good 2 numbers run) (part-good 3 numbers run) (part-good 4 numbers run)

either : (n w : ℕ) (a b : Bool) → eqb n 0 ≡ not a → eqb w 0 ≡ not b → eqb (if eqb n 0 then w else n) 0 ≡ not (a || b)
either n w true b p q = rw p p
either n w false b p q = rw p q

pub none-bad : NoneBad
unfolding first_bad
none-bad r numbers run =
    either (first_bad_register r) (first_bad_window numbers run) (registers_bad r) (bad_windows numbers run)
    (no_register r) (no-window numbers run)
