-- Document 02, ask 8: a context's tables as they are built here, with a mark for each page of their region: the level of the table that
-- it is, or 0. They are a tree of distinct pages. An entry is counted from the region's start: entry n lies at its byte 8 n, in its page
-- n / 512.
use Rattle.std.specs.Prelude.{ℕ, suc, ◌+◌, ◌*◌, ◌/◌, ◌%◌, ◌^◌, ◌<◌, ◌≤◌, Bool, true, false, not, ◌&&◌, List, ◌≡◌, length, get_or}
use Rattle.tables.specs.Tables.{held_entry, present, maps_page, table_entry, empty_table}
use Rattle.tables.specs.declared.Tree.{Tree}

-- a region of so many pages, and the top table in it: both begin at multiples of 4096, the region ends at or below 2^52, and there is
-- more than one level
pub record Placed (tree : Tree) (pages : ℕ) : Type 0 where
  pub start-aligned : tree.start % 4096 ≡ 0
  pub top-aligned : tree.top % 4096 ≡ 0
  pub fits : tree.start + 4096 * pages ≤ 2 ^ 52
  pub deep : 0 < tree.below

-- an entry of a table with so many levels below it leads to a table
abbrev pub leads_on : (below e : ℕ) → Bool
leads_on below e = present e && not (maps_page below e)

-- The page that entry n leads to, with both rights and no other bit. It is a table of the next level, and no other entry leads there:
-- from says which may.
pub record Leads (tree : Tree) (marks : List ℕ) (from : ℕ → ℕ) (n below e : ℕ) : Type 0 where
  pub page : ℕ
  pub entry : e ≡ table_entry tree.start (4096 * page)
  pub level : get_or marks page 0 ≡ below
  pub alone : from page ≡ n

pub record WellBuilt (bytes marks : List ℕ) (tree : Tree) : Type 0 where
  pub placed : Placed tree (length marks)
  pub sized : length bytes ≡ 4096 * length marks
  pub top-marked : get_or marks (tree.top / 4096) 0 ≡ tree.below + 1
  pub from : (page : ℕ) → ℕ
  pub leads : (n below : ℕ) → get_or marks (n / 512) 0 ≡ suc below → leads_on below (held_entry bytes (8 * n)) ≡ true
      → Leads tree marks from n below (held_entry bytes (8 * n))

-- no table but the top one is empty: pages of emptied tables are free
abbrev pub NoneEmpty : (bytes marks : List ℕ) → Tree → Type 0
NoneEmpty bytes marks tree =
    (page below : ℕ) → get_or marks page 0 ≡ suc below → (4096 * page ≡ tree.top → ⊥) → empty_table bytes (4096 * page) ≡ false
