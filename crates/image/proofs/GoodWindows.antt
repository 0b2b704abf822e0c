-- What windows that aren't refused are, one window's tests, and where a byte of a host address stands in the run.
use Rattle.std.proofs.Common.{◌≡◌, ℕ, zero, suc, ◌+◌, ◌-◌, ◌*◌, ◌%◌, ◌^◌, ◌<◌, ◌≤◌, Bool, true, false, ltb, leb, List, [], ◌∷◌, ◌++◌, length, drop, sym, refl, ap, ◌∙◌, append-nil, arith, length-drop, drop_of_length-le, drop-cons, ltb-false, le-ltb, lt-ltb, eq-eqb, ne_eqb, eqb-true, le-leb, leb-true}
use mathlib.Core.Bool.{and-false}
use native.Mathlib.Decide.{dec_le}
use borrow.Author.Tests.{lt-leb, not-false}
use Rattle.image.specs.Windows.{Window, windows_of, window_at, end_of, holds_all, nowhere, here, spot_in, bad_window, overlap, bad_pair, bad_with_any, bad_list, bad_numbers, bad_windows}
use Rattle.image.proofs.Choices.{neither, both, above_zero, nor}

-- a window that isn't refused
pub record GoodWindow (w : Window) (run : ℕ) : Type 0 where
  pub aligned : w.start % 4096 ≡ 0
  pub some : 0 < w.size
  pub in_run : w.place + w.size ≤ run
  pub top : end_of w ≤ 2 ^ 64

-- two of them, in this order
pub record GoodPair (w v : Window) : Type 0 where
  pub sorted : end_of w ≤ v.start
  pub apart : overlap w.place w.size v.place v.size ≡ false

unfoldable pub GoodWithAll : Window → List Window → Type 0
GoodWithAll w [] = Unit {0}
GoodWithAll w (v ∷ vs) = GoodPair w v × GoodWithAll w vs

unfoldable pub Good : List Window → (run : ℕ) → Type 0
Good [] run = Unit {0}
Good (w ∷ ws) run = GoodWindow w run × GoodWithAll w ws × Good ws run

pub good-window : (w : Window) (run : ℕ) → bad_window w run ≡ false → GoodWindow w run
good-window w run h =
    let h3 = neither _ _ h in
    let h2 = neither _ _ h3.0 in
    let h1 = neither _ _ h2.0 in
    record {
      aligned = eqb-true _ _ (not-false _ h1.0);
      some = above_zero w.size h1.1;
      in_run = ltb-false _ _ h2.1;
      top = ltb-false _ _ h3.1;
    }

pub window-good : (w : Window) (run : ℕ) → GoodWindow w run → bad_window w run ≡ false
window-good w run g =
    let isnt : w.size ≡ 0 → ⊥ = λ e. omega (arith, g.some, e) in
    rw (eq-eqb (w.start % 4096) 0 g.aligned, ne_eqb w.size 0 isnt, le-ltb run (w.place + w.size) g.in_run, le-ltb (2 ^ 64) (end_of w) g.top)

-- two spans of which neither is empty: one ends before the other begins
pub not-over : (a m b n : ℕ) → overlap a m b n ≡ false → b < a + m → b + n ≤ a
not-over a m b n h in-it = go (dec_le (b + n) a)
  where
    go : Dec (b + n ≤ a) → b + n ≤ a
    go (yes e) = e
    go (no e) =
        let z : ◌≡◌ {A = Bool} true false = sym (rw (lt-ltb a (b + n) (omega arith), lt-ltb b (a + m) in-it)) ∙ h in
        let z2 : ◌≡◌ {A = ℕ} 0 1 = cc in
        absurd (omega arith)

pub ends-before : (a m b n : ℕ) → a + m ≤ b → overlap a m b n ≡ false
ends-before a m b n h = rw (le-ltb b (a + m) h) (and-false (ltb a (b + n)))

good-pair : (w v : Window) (run : ℕ) → GoodWindow v run → bad_pair w v ≡ false → GoodPair w v
good-pair w v run g h =
    let h2 = neither _ _ h in
    let h1 = neither _ _ h2.0 in
    let order : w.start ≤ v.start = ltb-false _ _ h1.0 in
    record { sorted = go order h1.1 (dec_le (end_of w) v.start); apart = h2.1 }
  where
    go : w.start ≤ v.start → overlap w.start w.size v.start v.size ≡ false → Dec (end_of w ≤ v.start)
        → end_of w ≤ v.start
    go order e (yes d) = d
    go order e (no d) =
        let off = not-over w.start w.size v.start v.size e (omega arith) in
        absurd (omega (arith, g.some))

pub pair-good : (w v : Window) (run : ℕ) → GoodWindow w run → GoodPair w v → bad_pair w v ≡ false
pair-good w v run g p =
    rw (le-ltb v.start w.start (omega (arith, g.some, p.sorted)), ends-before w.start w.size v.start v.size p.sorted, p.apart)

good-with-all : (w : Window) (ws : List Window) (run : ℕ) → Good ws run → bad_with_any w ws ≡ false → GoodWithAll w ws
unfolding Good GoodWithAll bad_with_any
good-with-all w [] run g h = tt
good-with-all w (v ∷ vs) run g h =
    let h1 = neither _ _ h in
    (good-pair w v run g.0 h1.0, good-with-all w vs run g.2 h1.1)

pub good-list : (ws : List Window) (run : ℕ) → bad_list ws run ≡ false → Good ws run
unfolding Good bad_list
good-list [] run h = tt
good-list (w ∷ ws) run h =
    let h2 = neither _ _ h in
    let h1 = neither _ _ h2.0 in
    let rest = good-list ws run h2.1 in
    (good-window w run h1.0, good-with-all w ws run rest h1.1, rest)

all-good : (w : Window) (ws : List Window) (run : ℕ) → GoodWindow w run → GoodWithAll w ws → bad_with_any w ws ≡ false
unfolding GoodWithAll bad_with_any
all-good w [] run g h = refl
all-good w (v ∷ vs) run g h = nor _ _ (pair-good w v run g h.0) (all-good w vs run g h.1)

pub list-good : (ws : List Window) (run : ℕ) → Good ws run → bad_list ws run ≡ false
unfolding Good bad_list
list-good [] run g = refl
list-good (w ∷ ws) run g =
    nor _ _ (nor _ _ (window-good w run g.0) (all-good w ws run g.0 g.1)) (list-good ws run g.2)

-- windows that aren't refused
module _ (numbers : List ℕ) (run : ℕ) (fine : bad_windows numbers run ≡ false) where
  pub good : Good (windows_of numbers) run
  unfolding bad_windows
  good = good-list (windows_of numbers) run (neither (bad_numbers (length numbers)) (bad_list (windows_of numbers) run) fine).1

  pub three-each : (length numbers ≤ 12) × (length numbers % 3 ≡ 0)
  unfolding bad_windows
  three-each =
      let counts = neither (ltb 12 (length numbers)) _ (neither (bad_numbers (length numbers)) (bad_list (windows_of numbers) run) fine).0 in
      (ltb-false 12 (length numbers) counts.0, eqb-true _ _ (not-false _ counts.1))

-- a window that holds some bytes, and one that doesn't
module _ (w : Window) (size at : ℕ) where
  pub held : holds_all w size at ≡ true → (w.start ≤ at) × (at + size ≤ end_of w)
  held h =
      let h1 = both (leb w.start at) (leb (at + size) (end_of w)) h in
      (leb-true _ _ h1.0, leb-true _ _ h1.1)

  pub holding : w.start ≤ at → at + size ≤ end_of w → holds_all w size at ≡ true
  holding from to = rw (le-leb w.start at from, le-leb (at + size) (end_of w) to)

  pub before-it : at < w.start → holds_all w size at ≡ false
  before-it h = rw (lt-leb w.start at h)

  pub past-it : end_of w < at + size → holds_all w size at ≡ false
  past-it h = rw (lt-leb (at + size) (end_of w) h) (and-false (leb w.start at))

  -- the first window of a list
  module _ (ws : List Window) where
    pub spot-first : holds_all w size at ≡ true → spot_in (w ∷ ws) size at ≡ here (w.place + (at - w.start)) (end_of w - at)
    unfolding spot_in
    spot-first h = rw h

    pub spot-next : holds_all w size at ≡ false → spot_in (w ∷ ws) size at ≡ spot_in ws size at
    unfolding spot_in
    spot-next h = rw h

-- so many windows by the numbers from an index on
unfoldable pub windows_from : (numbers : List ℕ) → (i n : ℕ) → List Window
windows_from numbers i zero = []
windows_from numbers i (suc n) = window_at numbers i ∷ windows_from numbers (i + 3) n

pub too_few : (l : List ℕ) → length l < 3 → windows_of l ≡ []
unfolding windows_of
too_few [] h = refl
too_few (a ∷ []) h = refl
too_few (a ∷ b ∷ []) h = refl
too_few (a ∷ b ∷ c ∷ l) h = absurd (omega arith)

pub first_of : (numbers : List ℕ) (i : ℕ) → i + 3 ≤ length numbers
    → windows_of (drop i numbers) ≡ window_at numbers i ∷ windows_of (drop (i + 3) numbers)
unfolding windows_of
first_of numbers i h =
    let a : i < length numbers = omega arith in
    let b : suc i < length numbers = omega arith in
    let c : suc (suc i) < length numbers = omega arith in
    let i1 : i + 1 ≡ suc i = omega arith in
    let i2 : i + 2 ≡ suc (suc i) = omega arith in
    let i3 : i + 3 ≡ suc (suc (suc i)) = omega arith in
    rw (drop-cons numbers i 0 a, drop-cons numbers (suc i) 0 b, drop-cons numbers (suc (suc i)) 0 c, i1, i2, i3)

-- by their first n windows, and the windows after them
module _ (numbers : List ℕ) where
  front-from : (i n : ℕ) → i + 3 * n ≤ length numbers
      → windows_of (drop i numbers) ≡ windows_from numbers i n ++ windows_of (drop (i + 3 * n) numbers)
  unfolding windows_from
  front-from i zero h = let all : i + 3 * 0 ≡ i = omega arith in rw all
  front-from i (suc n) h =
      let all : (i + 3) + 3 * n ≡ i + 3 * suc n = omega arith in
      first_of numbers i (omega arith)
      ∙ ap (λ (l : List Window). window_at numbers i ∷ l) (front-from (i + 3) n (omega arith) ∙ rw all)

  pub front : (n : ℕ) → 3 * n ≤ length numbers → windows_of numbers ≡ windows_from numbers 0 n ++ windows_of (drop (3 * n) numbers)
  front n h = let all : 0 + 3 * n ≡ 3 * n = omega arith in front-from 0 n (omega arith) ∙ rw all

  pub whole : (n : ℕ) → length numbers ≡ 3 * n → windows_of numbers ≡ windows_from numbers 0 n
  unfolding windows_of
  whole n h =
      front n (omega arith)
      ∙ rw (drop_of_length-le numbers {i = 3 * n} (omega arith)) (append-nil (windows_from numbers 0 n))

  -- the window whose numbers stand from an index on, in a search for a place
  module _ (size at i : ℕ) where
    pub spot-at : i + 3 ≤ length numbers → holds_all (window_at numbers i) size at ≡ true
        → spot_in (windows_of (drop i numbers)) size at
        ≡ here ((window_at numbers i).place + (at - (window_at numbers i).start)) (end_of (window_at numbers i) - at)
    spot-at there h = rw (first_of numbers i there) (spot-first (window_at numbers i) size at (windows_of (drop (i + 3) numbers)) h)

    pub spot-after : i + 3 ≤ length numbers → holds_all (window_at numbers i) size at ≡ false
        → spot_in (windows_of (drop i numbers)) size at ≡ spot_in (windows_of (drop (i + 3) numbers)) size at
    spot-after there h = rw (first_of numbers i there) (spot-next (window_at numbers i) size at (windows_of (drop (i + 3) numbers)) h)

    pub spot-none-left : length numbers < i + 3 → spot_in (windows_of (drop i numbers)) size at ≡ nowhere
    unfolding spot_in
    spot-none-left h = rw (too_few (drop i numbers) (rw (length-drop i numbers) (omega arith)))

  module _ (run : ℕ) (fine : bad_windows numbers run ≡ false) where
    good-from : (n : ℕ) → 3 * n ≤ length numbers → Good (windows_of (drop (3 * n) numbers)) run
    unfolding Good
    good-from zero h = good numbers run fine
    good-from (suc n) h =
        let next : 3 * n + 3 ≡ 3 * suc n = omega arith in
        rw (← next) (rw (first_of numbers (3 * n) (omega arith)) at (good-from n (omega arith))).2

    pub good-at : (n : ℕ) → 3 * n + 3 ≤ length numbers → GoodWindow (window_at numbers (3 * n)) run
    unfolding Good
    good-at n h = (rw (first_of numbers (3 * n) h) at (good-from n (omega arith))).0

-- a difference and a sum that wrap
module _ (w : Window) (at : ℕ) (starts : w.start < 2 ^ 64) where
  pub one-test : end_of w ≤ 2 ^ 64 → {into : ℕ} → into < 2 ^ 64 → (into + w.start) % 2 ^ 64 ≡ at → ltb into w.size ≡ holds_all w 1 at
  one-test top {into} fits wraps = go (dec_le w.size into) (dec_le (2 ^ 64) (into + w.start))
    where
      go : Dec (w.size ≤ into) → Dec (2 ^ 64 ≤ into + w.start) → ltb into w.size ≡ holds_all w 1 at
      go (no e) past = rw (lt-ltb into w.size (omega arith), holding w 1 at (omega arith) (omega arith))
      go (yes e) (yes past) = rw (le-ltb into w.size e, before-it w 1 at (omega arith))
      go (yes e) (no past) = rw (le-ltb into w.size e, past-it w 1 at (omega arith))

  pub one-sum : w.place < 2 ^ 64 → w.place + w.size < 2 ^ 64 → holds_all w 1 at ≡ true → {away to : ℕ} → (away + w.start) % 2 ^ 64 ≡ w.place → away < 2 ^ 64
      → to ≡ (at + away) % 2 ^ 64 → to ≡ w.place + (at - w.start)
  one-sum here-it room h wraps fits is = let lies = held w 1 at h in omega arith
