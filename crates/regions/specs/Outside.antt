-- A table of which no byte is in a window.
use Rattle.std.specs.Prelude.{ℕ, Bool, false, not, ◌||◌, List, [], ◌∷◌}
use Rattle.image.specs.Windows.{Window, windows_of, overlap}

-- a window has one of the 4,096 bytes of a table
unfoldable pub touched_by_any : List Window → (table : ℕ) → Bool
touched_by_any [] table = false
touched_by_any (w ∷ ws) table = overlap w.start w.size table 4096 || touched_by_any ws table

-- a table wholly outside
abbrev pub table_outside : (windows : List ℕ) → (table : ℕ) → Bool
table_outside windows table = not (touched_by_any (windows_of windows) table)
