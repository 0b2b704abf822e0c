-- Document 02, ask 8: a context's page tables in a region of memory. The region is held as a run of its bytes, byte n being that of host
-- address start + n, and a table is named by the place of its first byte in that run. Beside the bytes stands a mark for each page of
-- the region: the level of the table that it is, or 0 for a free page.
use Rattle.std.specs.Prelude.{ℕ, zero, suc, ◌+◌, ◌-◌, Bool, true, not, ◌&&◌, ◌||◌, List, eqb}
use Rattle.image.specs.Bits.{bit, any_set, in_place}
use Rattle.image.specs.Memory.{entry, of_image, on_fetch, with_word}

pub record Tables : Type 0 where
  pub bytes : List ℕ
  pub marks : List ℕ

abbrev pub tables : (bytes marks : List ℕ) → Tables
tables bytes marks = record { bytes = bytes; marks = marks }

-- the entry at a place of the region; 0 where the region doesn't hold all of it
unfoldable pub held_entry : List ℕ → (at : ℕ) → ℕ
held_entry bytes at = on_fetch (entry 1 (of_image bytes) at) 0 (λ e. e)

-- bits 1:0 are not both clear
abbrev pub present : (e : ℕ) → Bool
present e = any_set e 1 0

-- A present entry of a table with so many levels below it that maps a page: 4 KiB in the last level, 2 MiB with bit 7 in the one above.
abbrev pub maps_page : (below e : ℕ) → Bool
maps_page below e = eqb below 0 || eqb below 1 && bit e 7

-- any other present entry leads to a table: its address, with both rights
abbrev pub table_entry : (start table : ℕ) → ℕ
table_entry start table = start + table + 3

unfoldable pub table_of : (start e : ℕ) → ℕ
table_of start e = in_place e 51 12 - start

-- none of so many entries from a place on is present
unfoldable pub absent : (n : ℕ) → List ℕ → (at : ℕ) → Bool
absent zero bytes at = true
absent (suc n) bytes at = not (present (held_entry bytes at)) && absent n bytes (at + 8)

abbrev pub empty_table : List ℕ → (table : ℕ) → Bool
empty_table = absent 512

-- so many words from a place on are 0
unfoldable pub words_zeroed : (n : ℕ) → List ℕ → (at : ℕ) → List ℕ
words_zeroed zero bytes at = bytes
words_zeroed (suc n) bytes at = words_zeroed n (with_word bytes at 0) (at + 8)
