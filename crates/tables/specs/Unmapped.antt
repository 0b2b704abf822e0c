-- Document 02, ask 8: a page is unmapped, and the pages of emptied tables, the top one apart, are free.
use Rattle.std.specs.Prelude.{ℕ, zero, suc, ◌-◌, ◌/◌, Bool, ◌&&◌, eqb, set}
use Rattle.std.specs.Prelude.{if◌then◌else◌}
use Rattle.image.specs.Memory.{with_word}
use Rattle.tables.specs.Tables.{Tables, tables, present, maps_page, empty_table}
use Rattle.tables.specs.Way.{way}
use Rattle.tables.specs.declared.Tree.{Tree}
use Rattle.tables.specs.declared.way.Stop.{Stop}

-- a table's page is free, and its entry at a place of the table above is 0
abbrev pub without_table : (table at : ℕ) → Tables → Tables
without_table table at t = tables (with_word t.bytes at 0) (set t.marks (table / 4096) 0)

-- the tables on the way to a place that are empty, from a level up, so many at most: the first that isn't ends it
unfoldable pub freed_tables : Tree → (place : ℕ) → (left below : ℕ) → Tables → Tables
freed_tables tree place zero below t = t
freed_tables tree place (suc k) below t =
    if empty_table t.bytes (way t.bytes tree place below).table then
    freed_tables tree place k (suc below)
    (without_table (way t.bytes tree place below).table (way t.bytes tree place (suc below)).at t)
    else t

-- the way ends at a page of this size
abbrev pub leaf_here : (last : ℕ) → Stop → Bool
leaf_here last stop = eqb stop.below last && present stop.entry && maps_page last stop.entry

-- 8, no leaf of this place and size; else 0, and its entry is 0
abbrev pub unmap_at : Tree → (place last : ℕ) → Stop → Tables → ℕ × Tables
unmap_at tree place last stop t =
    if leaf_here last stop then
    (0, freed_tables tree place (tree.below - last) last (tables (with_word t.bytes stop.at 0) t.marks))
    else (8, t)

unfoldable pub unmapped : Tree → (place last : ℕ) → Tables → ℕ × Tables
unmapped tree place last t = unmap_at tree place last (way t.bytes tree place last) t
