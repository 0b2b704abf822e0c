-- A window as the code's fetches use it, with what is added to a host address, modulo 2^64, for its place in the run.
use Rattle.std.specs.Prelude.{◌≡◌, ℕ, ◌+◌, ◌-◌, ◌%◌, ◌^◌, ◌≤◌, true, false, List}
use Rattle.image.specs.Windows.{Window, window_at, end_of, holds_all, here, spot_in, bad_window, bad_windows}
use Rattle.image.specs.declared.Span.{Span}

-- the window that it is
abbrev pub window_by : Span → Window
window_by s = record { start = s.start; place = (s.shift + s.start) % 2 ^ 64; size = s.size }

-- windows that aren't refused, the first of them at hand: one of no bytes where there is none
abbrev pub Opened : (first : Span) (numbers : List ℕ) (run : ℕ) → Type 0
Opened first numbers run = (bad_windows numbers run ≡ false) × (window_by first ≡ window_at numbers 0)

-- a window of a list holds the byte at a host address, by which the byte's place in the run is told
pub record Holds (w : Window) (ws : List Window) (run at : ℕ) : Type 0 where
  pub good : bad_window w run ≡ false
  pub byte : holds_all w 1 at ≡ true
  pub spot : spot_in ws 1 at ≡ here (w.place + (at - w.start)) (end_of w - at)

-- so many bytes from a host address stand in the run from a place on, all in one window
pub record Stands (place : ℕ) (ws : List Window) (run size at : ℕ) : Type 0 where
  pub left : ℕ
  pub spot : spot_in ws size at ≡ here place left
  pub in_run : place + size ≤ run
