-- A region of guest memory as a run of bytes of its own, and back. Words are read and stored by host address, through the windows.
use Rattle.std.specs.Prelude.{ℕ, zero, suc, ◌+◌, Bool, true, false, Option, Some, None, List}
use Rattle.image.specs.Memory.{Memory, entry, on_fetch, with_word}
use Rattle.image.specs.Windows.{Spot, on_spot, spot_in, windows_of}
use Rattle.tables.specs.Tables.{held_entry}

abbrev pub is_whole : Spot → Bool
is_whole spot = on_spot spot false (λ place left. true)

-- the place of such bytes in the lent run
abbrev pub place_shown : Spot → Option ℕ
place_shown spot = on_spot spot None (λ place left. Some place)

-- the word at a host address; 0 where no single window shows all of it
unfoldable pub word_shown : Memory → (at : ℕ) → ℕ
word_shown m at = on_fetch (entry 1 m at) 0 (λ e. e)

-- another word at a host address; nothing is stored where no single window shows all of it
unfoldable pub stored_at : (windows : List ℕ) (at word : ℕ) (run : List ℕ) → List ℕ
stored_at windows at word run = on_spot (spot_in (windows_of windows) 8 at) run (λ place left. with_word run place word)

-- so many words of the memory from the host address start + at on, at the same places of a copy
unfoldable pub copied_in : Memory → (start : ℕ) → (n at : ℕ) (copy : List ℕ) → List ℕ
copied_in m start zero at copy = copy
copied_in m start (suc n) at copy = copied_in m start n (at + 8) (with_word copy at (word_shown m (start + at)))

-- and so many words of the copy back
unfoldable pub copied_out : (windows copy : List ℕ) (start : ℕ) → (n at : ℕ) (run : List ℕ) → List ℕ
copied_out windows copy start zero at run = run
copied_out windows copy start (suc n) at run =
    copied_out windows copy start n (at + 8) (stored_at windows (start + at) (held_entry copy at) run)
