-- Refusal 1's part on windows, as their neighbours tell it: in a row in which each window ends before the next begins, all are sorted
-- and apart in host addresses, and only the last can end past 2^64.
use Rattle.std.specs.Prelude.{ℕ, ◌+◌, ◌%◌, Bool, true, false, not, ◌&&◌, ◌||◌, List, [], ◌∷◌, ◌==◌, nat_le, nat_lt}
use Rattle.image.specs.Windows.{Window, end_of, bad_window, overlap}

-- a window alone, but for its end in host addresses
abbrev pub bad_part : Window → (run : ℕ) → Bool
bad_part w run = not (w.start % 4096 == 0) || w.size == 0 || nat_lt run (w.place + w.size)

-- a window and the next one
abbrev pub bad_next : Window → Window → (run : ℕ) → Bool
bad_next w v run = bad_part w run || nat_lt v.start (end_of w)

unfoldable pub bad_row : List Window → (run : ℕ) → Bool
bad_row [] run = false
bad_row (w ∷ []) run = bad_window w run
bad_row (w ∷ v ∷ ws) run = bad_next w v run || bad_row (v ∷ ws) run

-- two windows have a byte of the run in common
abbrev pub share : Window → Window → Bool
share w v = overlap w.place w.size v.place v.size

unfoldable pub shares_any : Window → List Window → Bool
shares_any w [] = false
shares_any w (v ∷ vs) = share w v || shares_any w vs

unfoldable pub sharing : List Window → Bool
sharing [] = false
sharing (w ∷ ws) = shares_any w ws || sharing ws

-- a window's part of the run ends before another's
abbrev pub rises : Window → Window → Bool
rises w v = nat_le (w.place + w.size) v.place

unfoldable pub rising : List Window → Bool
rising [] = true
rising (w ∷ []) = true
rising (w ∷ v ∷ ws) = rises w v && rising (v ∷ ws)
