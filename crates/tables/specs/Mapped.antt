-- Document 02, ask 8: a page is mapped. Missing tables are made from the top down, each in the lowest free page.
use Rattle.std.specs.Prelude.{ℕ, zero, suc, ◌+◌, ◌-◌, ◌*◌, ltb, set}
use Rattle.std.specs.Prelude.{if◌then◌else◌}
use Rattle.image.specs.Memory.{with_word}
use Rattle.dma.specs.Walk.{place_in}
use Rattle.tables.specs.Pages.{lowest, free_pages}
use Rattle.tables.specs.Tables.{Tables, tables, present, table_entry, words_zeroed}
use Rattle.tables.specs.Way.{way}
use Rattle.tables.specs.declared.Tree.{Tree}
use Rattle.tables.specs.declared.way.Stop.{Stop}

-- a new table of a level in the lowest free page, all zero, with its entry at a place of the table above
abbrev pub new_table : (start at level : ℕ) → Tables → Tables
new_table start at level t =
    tables (with_word (words_zeroed 512 t.bytes (4096 * lowest t.marks)) at (table_entry start (4096 * lowest t.marks)))
    (set t.marks (lowest t.marks) level)

-- The leaf is stored at a place, or so many missing tables are made first, the first of them with its entry at that place. last is how
-- many levels come below the leaf's.
unfoldable pub with_leaf : (start place last leaf : ℕ) → (missing at : ℕ) → Tables → Tables
with_leaf start place last leaf zero at t = tables (with_word t.bytes at leaf) t.marks
with_leaf start place last leaf (suc k) at t =
    with_leaf start place last leaf k (place_in place (4096 * lowest t.marks) (last + k)) (new_table start at (last + suc k) t)

-- 6, a mapped page meets this one: an entry is present where the way ends; 7, fewer free pages than missing tables; else 0, and it is mapped
abbrev pub map_at : (start place last leaf : ℕ) → Stop → Tables → ℕ × Tables
map_at start place last leaf stop t =
    if present stop.entry then (6, t)
    else if ltb (free_pages t.marks) (stop.below - last) then (7, t)
    else (0, with_leaf start place last leaf (stop.below - last) stop.at t)

unfoldable pub mapped : Tree → (place last leaf : ℕ) → Tables → ℕ × Tables
mapped tree place last leaf t = map_at tree.start place last leaf (way t.bytes tree place last) t
