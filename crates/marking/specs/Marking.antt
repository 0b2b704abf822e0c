-- Document 02, ask 8, a premise that can be seen: all of a context's tables lie in the region, built here from an empty one. Each page
-- of the region gets a mark, the level of the table that it is or 0, level by level from the top down. Good are tables in which each
-- entry that leads to a table leads, with both rights, to a page of the region that is no table yet, and of which none but the top one
-- is empty. The marks stand as they are where the first is found that isn't good.
use Rattle.std.specs.Prelude.{ℕ, zero, suc, ◌+◌, ◌*◌, ◌/◌, Bool, true, false, not, ◌&&◌, ◌||◌, List, eqb, length, get_or, set, replicate}
use Rattle.std.specs.Prelude.{if◌then◌else◌}
use Rattle.tables.specs.Tables.{held_entry, present, maps_page, table_entry, table_of, empty_table}
use Rattle.tables.specs.declared.Tree.{Tree}

-- good so far or not, and the marks
abbrev pub Marked : Type 0
Marked = Bool × List ℕ

abbrev pub then_mark : Marked → (List ℕ → Marked) → Marked
then_mark m next = if m.0 then next m.1 else m

-- a page of the region by the place of its first byte; one outside counts as no free page
abbrev pub free_page : (marks : List ℕ) (table : ℕ) → Bool
free_page marks table = eqb (get_or marks (table / 4096) 1) 0

-- an entry leads to a free page of the region, with both rights and no other bit
abbrev pub leads_to_free : (start : ℕ) (marks : List ℕ) (e : ℕ) → Bool
leads_to_free start marks e = eqb e (table_entry start (table_of start e)) && free_page marks (table_of start e)

-- an entry of a table with so many levels below it
unfoldable pub mark_entry : (start below e : ℕ) → (marks : List ℕ) → Marked
mark_entry start below e marks =
    if not (present e) || maps_page below e then (true, marks)
    else if leads_to_free start marks e then (true, set marks (table_of start e / 4096) below)
    else (false, marks)

-- so many entries from a place on
unfoldable pub mark_entries : (bytes : List ℕ) (start below : ℕ) → (n at : ℕ) (marks : List ℕ) → Marked
mark_entries bytes start below zero at marks = (true, marks)
mark_entries bytes start below (suc n) at marks =
    then_mark (mark_entry start below (held_entry bytes at) marks) (mark_entries bytes start below n (at + 8))

module _ (bytes : List ℕ) (tree : Tree) where
  -- a page, if it is a table of the level that has so many below it
  unfoldable pub mark_table : (below page : ℕ) (marks : List ℕ) → Marked
  mark_table below page marks =
      if not (eqb (get_or marks page 0) (suc below)) then (true, marks)
      else if not (eqb (4096 * page) tree.top) && empty_table bytes (4096 * page) then (false, marks)
      else mark_entries bytes tree.start below 512 (4096 * page) marks

  -- so many pages from one on
  unfoldable pub mark_level : (below : ℕ) → (n page : ℕ) (marks : List ℕ) → Marked
  mark_level below zero page marks = (true, marks)
  mark_level below (suc n) page marks = then_mark (mark_table below page marks) (mark_level below n (page + 1))

  -- so many levels, the last ones
  unfoldable pub mark_levels : (n : ℕ) (marks : List ℕ) → Marked
  mark_levels zero marks = (true, marks)
  mark_levels (suc n) marks = then_mark (mark_level n (length marks) 0 marks) (mark_levels n)

  -- from the top table, in a region of so many pages
  unfoldable pub mark_all : (pages : ℕ) → Marked
  mark_all pages =
      if free_page (replicate pages 0) tree.top then
      mark_levels (tree.below + 1) (set (replicate pages 0) (tree.top / 4096) (tree.below + 1))
      else (false, replicate pages 0)
