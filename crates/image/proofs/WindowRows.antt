-- Refusal 1's part on windows as the code tells it: the tests of a window and of two, and why tests of neighbours are enough.
use Rattle.std.proofs.Common.{◌≡◌, ℕ, ◌+◌, ◌-◌, ◌%◌, ◌^◌, ◌<◌, ◌≤◌, Bool, true, false, not, ◌&&◌, ◌||◌, eqb, ltb, leb, List, [], ◌∷◌, length, drop, sym, refl, ap, ◌∙◌, arith, drop_of_length-le, ltb-false, le-ltb, lt-ltb, eq-eqb, ne_eqb, eqb-true, le-leb, leb-false, leb-true}
use mathlib.Core.Bool.{or-false, or_assoc}
use native.Mathlib.Decide.{dec_le}
use borrow.Author.Tests.{lt-leb, not-false}
use Rattle.image.specs.Windows.{Window, windows_of, window_at, end_of, bad_window, bad_list, bad_numbers, bad_windows}
use Rattle.image.specs.WindowRow.{bad_part, bad_next, bad_row, share, shares_any, sharing, rises, rising}
use Rattle.image.proofs.GoodWindows.{ends-before, GoodWindow, GoodWithAll, Good, window-good, good-window, good-list, list-good, windows_from, first_of, whole}
use Rattle.image.proofs.Choices.{neither, nor, both, above_zero}

-- a window alone
module _ (w : Window) (run : ℕ) (there : w.place < 2 ^ 64) (sized : w.size < 2 ^ 64) where
  pub part_off : (w.start % 4096 ≡ 0 → ⊥) → true ≡ bad_part w run
  part_off h = rw (ne_eqb (w.start % 4096) 0 h)

  pub part-wraps : w.start % 4096 ≡ 0 → run < 2 ^ 64 → {end : ℕ} → end ≡ (w.place + w.size) % 2 ^ 64 → end ≤ w.place → true ≡ bad_part w run
  part-wraps h fits {end} is up = go (dec_le w.size 0)
    where
      or-true : (a : Bool) → true ≡ (a || true)
      or-true true = refl
      or-true false = refl

      go : Dec (w.size ≤ 0) → true ≡ bad_part w run
      go (yes e) = rw (eq-eqb (w.start % 4096) 0 h, eq-eqb w.size 0 (omega arith))
      go (no e) = rw (lt-ltb run (w.place + w.size) (omega arith)) (or-true (not (eqb (w.start % 4096) 0) || eqb w.size 0))

  pub part-is : w.start % 4096 ≡ 0 → {end : ℕ} → end ≡ (w.place + w.size) % 2 ^ 64 → w.place < end → ltb run end ≡ bad_part w run
  part-is h {end} is up =
      let isnt : w.size ≡ 0 → ⊥ = λ e. omega arith in
      let whole : end ≡ w.place + w.size = omega arith in
      rw (eq-eqb (w.start % 4096) 0 h, ne_eqb w.size 0 isnt, whole)

pub good-part : (w : Window) (run : ℕ) → bad_part w run ≡ false → (w.start % 4096 ≡ 0) × (0 < w.size) × (w.place + w.size ≤ run)
good-part w run h =
    let h2 = neither _ _ h in
    let h1 = neither _ _ h2.0 in
    (eqb-true _ _ (not-false _ h1.0), above_zero w.size h1.1, ltb-false _ _ h2.1)

-- a window whose part is good, and where it ends
module _ (w : Window) (run : ℕ) (good : bad_part w run ≡ false) (starts : w.start < 2 ^ 64) (sized : w.size < 2 ^ 64) where
  pub next-wraps : (v : Window) → v.start < 2 ^ 64 → {end : ℕ} → end ≡ (w.start + w.size) % 2 ^ 64 → end ≤ w.start → true ≡ bad_next w v run
  next-wraps v fits is up =
      let g = good-part w run good in
      rw (good, lt-ltb v.start (end_of w) (omega (arith, g.1)))

  pub next-is : (v : Window) → {end : ℕ} → end ≡ (w.start + w.size) % 2 ^ 64 → w.start < end → ltb v.start end ≡ bad_next w v run
  next-is v {end} is up =
      let whole : end ≡ w.start + w.size = omega arith in
      rw (good, whole)

  pub last-is : ltb (18446744073709551615 - w.start) (w.size - 1) ≡ bad_window w run
  last-is = rw good (go (good-part w run good).1 (dec_le (end_of w) (2 ^ 64)))
    where
      go : 0 < w.size → Dec (end_of w ≤ 2 ^ 64) → ltb (18446744073709551615 - w.start) (w.size - 1) ≡ ltb (2 ^ 64) (end_of w)
      go g (yes e) = rw (le-ltb (18446744073709551615 - w.start) (w.size - 1) (omega arith), le-ltb (2 ^ 64) (end_of w) e)
      go g (no e) = rw (lt-ltb (18446744073709551615 - w.start) (w.size - 1) (omega arith), lt-ltb (2 ^ 64) (end_of w) (omega arith))

-- a window that is bad by its part alone
pub part-next : (w v : Window) (run : ℕ) → bad_part w run ≡ true → true ≡ bad_next w v run
part-next w v run h = rw h

pub part-last : (w : Window) (run : ℕ) → bad_part w run ≡ true → true ≡ bad_window w run
part-last w run h = rw h

-- two windows' parts of the run
pub not-rising : (w v : Window) → v.place < w.place → false ≡ rises w v
not-rising w v h = rw (lt-leb (w.place + w.size) v.place (omega arith))

pub rising-is : (w v : Window) → w.place ≤ v.place → leb w.size (v.place - w.place) ≡ rises w v
rising-is w v h = go (dec_le (w.place + w.size) v.place)
  where
    go : Dec (w.place + w.size ≤ v.place) → leb w.size (v.place - w.place) ≡ rises w v
    go (yes e) = rw (le-leb w.size (v.place - w.place) (omega arith), le-leb (w.place + w.size) v.place e)
    go (no e) = rw (lt-leb w.size (v.place - w.place) (omega arith), lt-leb (w.place + w.size) v.place (omega arith))

pub no-share : (w v : Window) → rises w v ≡ true → false ≡ share w v
no-share w v h = sym (ends-before w.place w.size v.place v.size (leb-true _ _ h))

pub share-is : (w v : Window) → rises w v ≡ false → not (rises v w) ≡ share w v
share-is w v h = go (dec_le (v.place + v.size) w.place)
  where
    before : v.place < w.place + w.size
    before = leb-false _ _ h

    go : Dec (v.place + v.size ≤ w.place) → not (rises v w) ≡ share w v
    go (yes e) = rw (le-leb (v.place + v.size) w.place e, le-ltb w.place (v.place + v.size) e)
    go (no e) =
        let after : w.place < v.place + v.size = omega arith in
        rw (lt-leb (v.place + v.size) w.place after, lt-ltb w.place (v.place + v.size) after, lt-ltb v.place (w.place + w.size) before)

-- the rows, window by window
module _ (w v : Window) (ws : List Window) (run : ℕ) where
  pub row-stop : bad_next w v run ≡ true → true ≡ bad_row (w ∷ v ∷ ws) run
  unfolding bad_row
  row-stop h = rw h

  pub row-go : bad_next w v run ≡ false → bad_row (v ∷ ws) run ≡ bad_row (w ∷ v ∷ ws) run
  unfolding bad_row
  row-go h = rw h

  pub rising-stop : rises w v ≡ false → false ≡ rising (w ∷ v ∷ ws)
  unfolding rising
  rising-stop h = rw h

  pub rising-go : rises w v ≡ true → rising (v ∷ ws) ≡ rising (w ∷ v ∷ ws)
  unfolding rising
  rising-go h = rw h

-- the same by the numbers from an index on
module _ (numbers : List ℕ) (i : ℕ) where
  first_two : i + 6 ≤ length numbers
      → windows_of (drop i numbers) ≡ window_at numbers i ∷ window_at numbers (i + 3) ∷ windows_of (drop (i + 3 + 3) numbers)
  first_two h =
      first_of numbers i (omega arith)
      ∙ ap (λ (l : List Window). window_at numbers i ∷ l) (first_of numbers (i + 3) (omega arith))

  only_one : i + 3 ≡ length numbers → windows_of (drop i numbers) ≡ window_at numbers i ∷ []
  unfolding windows_of
  only_one h =
      first_of numbers i (omega arith)
      ∙ rw (drop_of_length-le numbers {i = i + 3} (omega arith))

  pub row-stop-at : (run : ℕ) → i + 6 ≤ length numbers → bad_next (window_at numbers i) (window_at numbers (i + 3)) run ≡ true
      → true ≡ bad_row (windows_of (drop i numbers)) run
  row-stop-at run h bad = rw (first_two h) (row-stop _ _ (windows_of (drop (i + 3 + 3) numbers)) run bad)

  pub row-go-at : (run : ℕ) → i + 6 ≤ length numbers → bad_next (window_at numbers i) (window_at numbers (i + 3)) run ≡ false
      → bad_row (windows_of (drop (i + 3) numbers)) run ≡ bad_row (windows_of (drop i numbers)) run
  row-go-at run h fine =
      rw (first_two h, first_of numbers (i + 3) (omega arith))
      (row-go _ _ (windows_of (drop (i + 3 + 3) numbers)) run fine)

  pub row-part-at : (run : ℕ) → i + 6 ≤ length numbers → bad_row (windows_of (drop i numbers)) run ≡ false
      → ((window_at numbers i).place + (window_at numbers i).size ≤ run) × (bad_row (windows_of (drop (i + 3) numbers)) run ≡ false)
  unfolding bad_row
  row-part-at run h fine =
      let parts = neither (bad_next (window_at numbers i) (window_at numbers (i + 3)) run) _ (rw (first_two h) at fine) in
      let part = (neither (bad_part (window_at numbers i) run) _ parts.0).0 in
      ((good-part (window_at numbers i) run part).2, rw (first_of numbers (i + 3) (omega arith)) parts.1)

  pub row-last-at : (run : ℕ) → i + 3 ≡ length numbers → bad_window (window_at numbers i) run ≡ bad_row (windows_of (drop i numbers)) run
  unfolding bad_row
  row-last-at run h = rw (only_one h)

  pub rising-stop-at : i + 6 ≤ length numbers → rises (window_at numbers i) (window_at numbers (i + 3)) ≡ false
      → false ≡ rising (windows_of (drop i numbers))
  rising-stop-at h bad = rw (first_two h) (rising-stop _ _ (windows_of (drop (i + 3 + 3) numbers)) 0 bad)

  pub rising-go-at : i + 6 ≤ length numbers → rises (window_at numbers i) (window_at numbers (i + 3)) ≡ true
      → rising (windows_of (drop (i + 3) numbers)) ≡ rising (windows_of (drop i numbers))
  rising-go-at h fine =
      rw (first_two h, first_of numbers (i + 3) (omega arith))
      (rising-go _ _ (windows_of (drop (i + 3 + 3) numbers)) 0 fine)

  pub rising-last-at : i + 3 ≡ length numbers → true ≡ rising (windows_of (drop i numbers))
  unfolding rising
  rising-last-at h = rw (only_one h)

  pub rising-pair : i + 6 ≡ length numbers → rises (window_at numbers i) (window_at numbers (i + 3)) ≡ rising (windows_of (drop i numbers))
  unfolding rising windows_of
  rising-pair h =
      sym
      (rw (first_two (omega arith), drop_of_length-le numbers {i = i + 3 + 3} (omega arith))
      (and-true (rises (window_at numbers i) (window_at numbers (i + 3)))))
    where
      and-true : (a : Bool) → (a && true) ≡ a
      and-true true = refl
      and-true false = refl

-- the pairs of two, three and four windows
module _ (numbers : List ℕ) where
  abbrev shared : (i j : ℕ) → Bool
  shared i j = share (window_at numbers i) (window_at numbers j)

  pub one-shares : length numbers ≡ 3 → false ≡ sharing (windows_of numbers)
  unfolding sharing shares_any windows_from
  one-shares h = rw (whole numbers 1 h)

  pub two-share : length numbers ≡ 6 → shared 0 3 ≡ sharing (windows_of numbers)
  unfolding sharing shares_any windows_from
  two-share h = rw (whole numbers 2 h) (simp or-false)

  last-three : (i : ℕ) → i + 9 ≡ length numbers
      → windows_of (drop i numbers) ≡ window_at numbers i ∷ window_at numbers (i + 3) ∷ window_at numbers (i + 6) ∷ []
  last-three i h =
      let six : i + 3 + 3 ≡ i + 6 = omega arith in
      first_two numbers i (omega arith)
      ∙ ap (λ (l : List Window). window_at numbers i ∷ window_at numbers (i + 3) ∷ l) (rw six (only_one numbers (i + 6) (omega arith)))

  pub three-share : (i : ℕ) → i + 9 ≡ length numbers
      → (shared i (i + 3) || (shared i (i + 6) || shared (i + 3) (i + 6))) ≡ sharing (windows_of (drop i numbers))
  unfolding sharing shares_any
  three-share i h = rw (last-three i h) (simp (or-false, or_assoc))

  pub four-share : length numbers ≡ 12
      → (shared 0 3 || (shared 0 6 || (shared 0 9 || sharing (windows_of (drop 3 numbers))))) ≡ sharing (windows_of numbers)
  unfolding sharing shares_any
  four-share h =
      sym
      (ap sharing (first_of numbers 0 (omega arith))
      ∙ ap (λ (l : List Window). shares_any (window_at numbers 0) l || sharing (windows_of (drop 3 numbers))) (last-three 3 (omega arith))
      ∙ simp (or-false, or_assoc))

-- windows in the order of their parts share nothing
unfoldable Behind : ℕ → List Window → Type 0
Behind end [] = Unit {0}
Behind end (v ∷ vs) = (end ≤ v.place) × Behind end vs

behind-less : (a b : ℕ) (ws : List Window) → a ≤ b → Behind b ws → Behind a ws
unfolding Behind
behind-less a b [] h all = tt
behind-less a b (v ∷ vs) h all = (omega (arith, all.0), behind-less a b vs h all.1)

behind-shares : (w : Window) (ws : List Window) → Behind (w.place + w.size) ws → shares_any w ws ≡ false
unfolding Behind shares_any
behind-shares w [] h = refl
behind-shares w (v ∷ vs) h = nor _ _ (ends-before w.place w.size v.place v.size h.0) (behind-shares w vs h.1)

rising-behind : (w : Window) (ws : List Window) → rising (w ∷ ws) ≡ true → Behind (w.place + w.size) ws
unfolding rising Behind
rising-behind w [] h = tt
rising-behind w (v ∷ vs) h =
    let h1 = both (rises w v) (rising (v ∷ vs)) h in
    let up : w.place + w.size ≤ v.place = leb-true _ _ h1.0 in
    (up, behind-less (w.place + w.size) (v.place + v.size) vs (omega arith) (rising-behind v vs h1.1))

rising-rest : (w : Window) (ws : List Window) → rising (w ∷ ws) ≡ true → rising ws ≡ true
unfolding rising
rising-rest w [] h = refl
rising-rest w (v ∷ vs) h = (both (rises w v) (rising (v ∷ vs)) h).1

pub rising-apart : (ws : List Window) → rising ws ≡ true → sharing ws ≡ false
unfolding sharing
rising-apart [] h = refl
rising-apart (w ∷ ws) h = nor _ _ (behind-shares w ws (rising-behind w ws h)) (rising-apart ws (rising-rest w ws h))

-- a row that passes is sorted all through
unfoldable From : ℕ → List Window → Type 0
From end [] = Unit {0}
From end (v ∷ vs) = (end ≤ v.start) × From end vs

from_less : (a b : ℕ) (ws : List Window) → a ≤ b → From b ws → From a ws
unfolding From
from_less a b [] h all = tt
from_less a b (v ∷ vs) h all = (omega (arith, all.0), from_less a b vs h all.1)

row_from : (w : Window) (ws : List Window) (run : ℕ) → bad_row (w ∷ ws) run ≡ false → From (end_of w) ws
unfolding bad_row From
row_from w [] run h = tt
row_from w (v ∷ vs) run h =
    let h1 = neither (bad_next w v run) (bad_row (v ∷ vs) run) h in
    let up : end_of w ≤ v.start = ltb-false _ _ (neither (bad_part w run) _ h1.0).1 in
    (up, from_less (end_of w) (end_of v) vs (omega arith) (row_from v vs run h1.1))

row-rest : (w : Window) (ws : List Window) (run : ℕ) → bad_row (w ∷ ws) run ≡ false → bad_row ws run ≡ false
unfolding bad_row
row-rest w [] run h = refl
row-rest w (v ∷ vs) run h = (neither (bad_next w v run) (bad_row (v ∷ vs) run) h).1

-- the last window of a row ends where one before it can't end later
row-top : (w : Window) (ws : List Window) (run : ℕ) → bad_row (w ∷ ws) run ≡ false → GoodWindow w run
unfolding bad_row
row-top w [] run h = good-window w run h
row-top w (v ∷ vs) run h =
    let h1 = neither (bad_next w v run) (bad_row (v ∷ vs) run) h in
    let h2 = neither (bad_part w run) (ltb v.start (end_of w)) h1.0 in
    let g = good-part w run h2.0 in
    let next = row-top v vs run h1.1 in
    let up : end_of w ≤ v.start = ltb-false _ _ h2.1 in
    record { aligned = g.0; some = g.1; in_run = g.2; top = omega (arith, next.top) }

pairs : (w : Window) (ws : List Window) → From (end_of w) ws → shares_any w ws ≡ false → GoodWithAll w ws
unfolding From shares_any GoodWithAll
pairs w [] from apart = tt
pairs w (v ∷ vs) from apart =
    let h = neither (share w v) (shares_any w vs) apart in
    (record { sorted = from.0; apart = h.0 }, pairs w vs from.1 h.1)

pub row-good : (ws : List Window) (run : ℕ) → bad_row ws run ≡ false → sharing ws ≡ false → Good ws run
unfolding sharing Good
row-good [] run row apart = tt
row-good (w ∷ ws) run row apart =
    let h = neither (shares_any w ws) (sharing ws) apart in
    (row-top w ws run row, pairs w ws (row_from w ws run row) h.0, row-good ws run (row-rest w ws run row) h.1)

-- and windows that aren't refused pass
part_of : (w : Window) (run : ℕ) → GoodWindow w run → bad_part w run ≡ false
part_of w run g = (neither (bad_part w run) (ltb (2 ^ 64) (end_of w)) (window-good w run g)).0

pub good-row : (ws : List Window) (run : ℕ) → Good ws run → bad_row ws run ≡ false
unfolding Good GoodWithAll bad_row
good-row [] run g = refl
good-row (w ∷ []) run g = window-good w run g.0
good-row (w ∷ v ∷ vs) run g =
    nor _ _ (nor _ _ (part_of w run g.0) (le-ltb v.start (end_of w) g.1.0.sorted)) (good-row (v ∷ vs) run g.2)

apart-all : (w : Window) (ws : List Window) → GoodWithAll w ws → shares_any w ws ≡ false
unfolding GoodWithAll shares_any
apart-all w [] g = refl
apart-all w (v ∷ vs) g = nor _ _ g.0.apart (apart-all w vs g.1)

pub good-apart : (ws : List Window) (run : ℕ) → Good ws run → sharing ws ≡ false
unfolding Good sharing
good-apart [] run g = refl
good-apart (w ∷ ws) run g = nor _ _ (apart-all w ws g.1) (good-apart ws run g.2)

both_ways : (a b : Bool) → (a ≡ false → b ≡ false) → (b ≡ false → a ≡ false) → a ≡ b
both_ways false b f g = sym (f refl)
both_ways true true f g = refl
both_ways true false f g = g refl

pub by_rows : (ws : List Window) (run : ℕ) → (bad_row ws run || sharing ws) ≡ bad_list ws run
by_rows ws run =
    both_ways _ _
    (λ h. let h1 = neither (bad_row ws run) (sharing ws) h in list-good ws run (row-good ws run h1.0 h1.1))
    (λ h. let g = good-list ws run h in nor (bad_row ws run) (sharing ws) (good-row ws run g) (good-apart ws run g))

-- the whole test
module _ (numbers : List ℕ) (run : ℕ) where
  pub counts-badly : bad_numbers (length numbers) ≡ true → true ≡ bad_windows numbers run
  unfolding bad_windows
  counts-badly h = rw h

  module _ (few : length numbers ≤ 12) (threes : length numbers % 3 ≡ 0) where
    counted : (bad_row (windows_of numbers) run || sharing (windows_of numbers)) ≡ bad_windows numbers run
    unfolding bad_windows
    counted = rw (le-ltb 12 (length numbers) few, eq-eqb (length numbers % 3) 0 threes) (by_rows (windows_of numbers) run)

    pub row-tells : bad_row (windows_of numbers) run ≡ true → true ≡ bad_windows numbers run
    row-tells h = rw h at counted

    pub sharing-tells : bad_row (windows_of numbers) run ≡ false → sharing (windows_of numbers) ≡ bad_windows numbers run
    sharing-tells h = rw h at counted

    pub rising-tells : bad_row (windows_of numbers) run ≡ false → rising (windows_of numbers) ≡ true → false ≡ bad_windows numbers run
    rising-tells h up = sym (rising-apart (windows_of numbers) up) ∙ sharing-tells h

pub none-bad : (numbers : List ℕ) (run : ℕ) → length numbers ≡ 0 → false ≡ bad_windows numbers run
unfolding bad_windows windows_of bad_list
none-bad [] run h = refl
none-bad (x ∷ xs) run h = absurd (omega arith)

-- one window is told by itself
pub one-tells : (numbers : List ℕ) (run : ℕ) → length numbers ≡ 3 → bad_window (window_at numbers 0) run ≡ bad_windows numbers run
one-tells numbers run h = row-last-at numbers 0 run (omega arith) ∙ go (bad_row (windows_of numbers) run) refl
  where
    go : (b : Bool) → bad_row (windows_of numbers) run ≡ b → b ≡ bad_windows numbers run
    go true is = row-tells numbers run (omega arith) (omega arith) is
    go false is = one-shares numbers h ∙ sharing-tells numbers run (omega arith) (omega arith) is

-- a count of numbers, as the code tells it
pub few-threes : (n : ℕ) → bad_numbers n ≡ false → (n ≤ 12) × (n % 3 ≡ 0)
few-threes n h =
    let both = neither (ltb 12 n) _ h in
    (ltb-false 12 n both.0, eqb-true _ _ (not-false _ both.1))

pub no-count : (n : ℕ) → (n ≡ 0 → ⊥) → (n ≡ 3 → ⊥) → (n ≡ 6 → ⊥) → (n ≡ 9 → ⊥) → (n ≡ 12 → ⊥) → true ≡ bad_numbers n
no-count n n0 n3 n6 n9 n12 = go (dec_le n 12)
  where
    go : Dec (n ≤ 12) → true ≡ bad_numbers n
    go (no many) = rw (lt-ltb 12 n (omega arith))
    go (yes few) = let isnt : n % 3 ≡ 0 → ⊥ = λ e. omega arith in rw (le-ltb 12 n few, ne_eqb (n % 3) 0 isnt)
