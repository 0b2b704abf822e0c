-- Windows as the code's fetches use them: the window of a span is one of the windows lent.
use Rattle.std.proofs.Common.{◌≡◌, ℕ, ◌+◌, ◌*◌, ◌%◌, ◌^◌, ◌<◌, ◌≤◌, true, false, List, [], ◌∷◌, length, drop, Option, Some, None, sym, subst, refl, ◌∙◌, arith}
use native.Mathlib.Decide.{dec_le}
use Rattle.image.specs.Spans.{window_by, Opened, Holds}
use Rattle.image.specs.Answers.{HeldBy}
use Rattle.image.specs.Windows.{Window, windows_of, window_at, end_of, holds_all, spot_in, bad_windows}
use Rattle.image.specs.declared.Span.{Span}
use Rattle.image.proofs.GoodWindows.{three-each, good-at, window-good, held, spot-at, spot-after, spot-none-left}

-- the window whose three numbers stand from an index on
pub spanned : {w : Window} (numbers : List ℕ) (run : ℕ) → bad_windows numbers run ≡ false → (n at : ℕ) → 3 * n + 3 ≤ length numbers
    → w ≡ window_at numbers (3 * n) → holds_all w 1 at ≡ true → Holds w (windows_of (drop (3 * n) numbers)) run at
spanned numbers run fine n at there is h = record {
  good = rw is (window-good (window_at numbers (3 * n)) run (good-at numbers run fine n there));
  byte = h;
  spot = rw is (spot-at numbers 1 at (3 * n) there (rw is at h));
}

-- it ends at 2^64 or before
pub spanned-top : {w : Window} (numbers : List ℕ) (run : ℕ) → bad_windows numbers run ≡ false → (n : ℕ) → 3 * n + 3 ≤ length numbers
    → w ≡ window_at numbers (3 * n) → end_of w ≤ 2 ^ 64
spanned-top numbers run fine n there is = rw is (good-at numbers run fine n there).top

-- one that doesn't hold the byte
pub passed-by : {w : Window} (numbers : List ℕ) (at i : ℕ) → i + 3 ≤ length numbers → w ≡ window_at numbers i → holds_all w 1 at ≡ false
    → spot_in (windows_of (drop i numbers)) 1 at ≡ spot_in (windows_of (drop (i + 3) numbers)) 1 at
passed-by numbers at i there is h = spot-after numbers 1 at i there (rw is at h)

-- in a list in which the same is found
pub among : {w : Window} {ws vs : List Window} {run at : ℕ} → spot_in ws 1 at ≡ spot_in vs 1 at → Holds w vs run at → Holds w ws run at
among same h = record { good = h.good; byte = h.byte; spot = same ∙ h.spot }

pub held-among : (r : Option Span) (ws vs : List Window) (run at : ℕ) → spot_in ws 1 at ≡ spot_in vs 1 at → HeldBy r vs run at → HeldBy r ws run at
held-among (Some s) ws vs run at same h = among same h
held-among None ws vs run at same h = same ∙ h

-- no window at all
pub no-window : (numbers : List ℕ) → length numbers < 3 → length numbers % 3 ≡ 0 → window_at numbers 0 ≡ record { start = 0; place = 0; size = 0 }
no-window [] few each = refl
no-window (a ∷ []) few each = absurd (omega arith)
no-window (a ∷ b ∷ []) few each = absurd (omega arith)
no-window (a ∷ b ∷ c ∷ l) few each = absurd (omega arith)

-- the first window, which is one of no bytes where there is none
module _ (first : Span) (numbers : List ℕ) (run : ℕ) (opened : Opened first numbers run) where
  none : length numbers < 3 → window_by first ≡ record { start = 0; place = 0; size = 0 }
  none few = opened.1 ∙ no-window numbers few (three-each numbers run opened.0).1

  pub first-top : end_of (window_by first) ≤ 2 ^ 64
  first-top = go (dec_le 3 (length numbers))
    where
      go : Dec (3 ≤ length numbers) → end_of (window_by first) ≤ 2 ^ 64
      go (yes there) = spanned-top numbers run opened.0 0 there opened.1
      go (no few) = subst (λ (w : Window). end_of w ≤ 2 ^ 64) (sym (none (omega arith))) (omega arith)

  module _ (at : ℕ) where
    pub first-held : holds_all (window_by first) 1 at ≡ true → Holds (window_by first) (windows_of numbers) run at
    first-held h = go (dec_le 3 (length numbers))
      where
        go : Dec (3 ≤ length numbers) → Holds (window_by first) (windows_of numbers) run at
        go (yes there) = spanned numbers run opened.0 0 at there opened.1 h
        go (no few) =
            let lies = held (record { start = 0; place = 0; size = 0 }) 1 at (subst (λ (w : Window). holds_all w 1 at ≡ true) (none (omega arith)) h) in
            absurd (omega (arith, lies.1))

    pub first_past : holds_all (window_by first) 1 at ≡ false → spot_in (windows_of numbers) 1 at ≡ spot_in (windows_of (drop 3 numbers)) 1 at
    first_past h = go (dec_le 3 (length numbers))
      where
        go : Dec (3 ≤ length numbers) → spot_in (windows_of numbers) 1 at ≡ spot_in (windows_of (drop 3 numbers)) 1 at
        go (yes there) = spot-after numbers 1 at 0 there (subst (λ (w : Window). holds_all w 1 at ≡ false) opened.1 h)
        go (no few) = spot-none-left numbers 1 at 0 (omega arith) ∙ sym (spot-none-left numbers 1 at 3 (omega arith))
