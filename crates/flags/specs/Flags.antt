-- Flags of entries: accessed, extended accessed and dirty bits (document 003, 3.6.2 and 3.7.2). A granted request sets those of the entries
-- that it used, all of them after its last read; anything else sets none.
use Rattle.std.specs.Prelude.{ℕ, ◌+◌, ◌*◌, ◌/◌, ◌%◌, List, [], ◌∷◌, slice_index, slice_set}
use Rattle.image.specs.Windows.{windows_of, on_spot, spot_in}
use Rattle.interrupts.specs.Post.{with_bit}

-- a bit of the entry at a host address, by its number from host address 0: bit n % 8 of the byte at host address n / 8
abbrev pub flag : (entry number : ℕ) → ℕ
flag entry number = 8 * entry + number

-- the run with a flag set, where a window shows its byte
unfoldable pub set_flag : (windows : List ℕ) (n : ℕ) → List ℕ → List ℕ
set_flag windows n bytes =
    on_spot (spot_in (windows_of windows) 1 (n / 8)) bytes
    (λ place left. slice_set bytes place (with_bit (n % 8) (slice_index bytes place)))

unfoldable pub set_flags : (windows flags : List ℕ) → List ℕ → List ℕ
set_flags windows [] bytes = bytes
set_flags windows (n ∷ rest) bytes = set_flags windows rest (set_flag windows n bytes)
