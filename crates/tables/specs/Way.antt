-- The way to a place: from the top table down, to an entry that isn't present or maps a page, or to a level asked for. Levels are counted
-- by how many come below them: 0 is the last.
use Rattle.std.specs.Prelude.{ℕ, zero, suc, Bool, not, ◌||◌, List, eqb}
use Rattle.std.specs.Prelude.{if◌then◌else◌}
use Rattle.dma.specs.Walk.{place_in}
use Rattle.tables.specs.Tables.{held_entry, present, maps_page, table_of}
use Rattle.tables.specs.declared.way.Stop.{Stop}
use Rattle.tables.specs.declared.Tree.{Tree}

-- the entry on the way to a place in a table
abbrev pub stop_in : (bytes : List ℕ) (place below table : ℕ) → Stop
stop_in bytes place below table =
    record {
      below = below;
      table = table;
      at = place_in place table below;
      entry = held_entry bytes (place_in place table below);
    }

abbrev pub ends : (last below e : ℕ) → Bool
ends last below e = eqb below last || not (present e) || maps_page below e

unfoldable pub way_to : (bytes : List ℕ) (start place last : ℕ) → (below table : ℕ) → Stop
way_to bytes start place last zero table = stop_in bytes place 0 table
way_to bytes start place last (suc n) table =
    if ends last (suc n) (held_entry bytes (place_in place table (suc n))) then stop_in bytes place (suc n) table
    else way_to bytes start place last n (table_of start (held_entry bytes (place_in place table (suc n))))

-- from the top table
abbrev pub way : (bytes : List ℕ) → Tree → (place last : ℕ) → Stop
way bytes tree place last = way_to bytes tree.start place last tree.below tree.top
