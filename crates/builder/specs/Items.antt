-- Document 02, ask 8: a list of pages to map or unmap, taken in order up to the first item with a reason against it. Items are lent as
-- numbers, four an item: what it asks for, place, size and frame.
use Rattle.std.specs.Prelude.{ℕ, zero, suc, ◌+◌, ◌*◌, List, eqb, get_or}
use Rattle.std.specs.Prelude.{if◌then◌else◌}
use Rattle.registers.specs.declared.Registers.{Registers}
use Rattle.tables.specs.Mapped.{mapped}
use Rattle.tables.specs.Tables.{Tables}
use Rattle.tables.specs.Unmapped.{unmapped}
use Rattle.tables.specs.declared.Tree.{Tree}
use Rattle.builder.specs.Reasons.{unmaps, levels_below, leaf_of, item_reason}
use Rattle.builder.specs.declared.items.Item.{Item}

-- how far the items were taken: the index of the first that wasn't and the reason against it, or reason 0
pub record Taken : Type 0 where
  pub index : ℕ
  pub reason : ℕ

abbrev pub item_at : (numbers : List ℕ) (i : ℕ) → Item
item_at numbers i =
    record {
      what = get_or numbers (4 * i) 0;
      place = get_or numbers (4 * i + 1) 0;
      size = get_or numbers (4 * i + 2) 0;
      frame = get_or numbers (4 * i + 3) 0;
    }

module _ (registers : Registers) (tree : Tree) where
  -- a page with no reason against it yet: those that the tables tell, 6 to 8
  abbrev pub changed : Item → Tables → ℕ × Tables
  changed item t =
      if unmaps item then unmapped tree item.place (levels_below item) t
      else mapped tree item.place (levels_below item) (leaf_of item) t

  unfoldable pub take_item : Item → Tables → ℕ × Tables
  take_item item t =
      if eqb (item_reason registers (tree.below + 1) item) 0 then changed item t
      else (item_reason registers (tree.below + 1) item, t)

  -- an item taken, and the rest where there was no reason against it
  abbrev pub then_take : (index : ℕ) → ℕ × Tables → (Tables → Taken × Tables) → Taken × Tables
  then_take index one next = if eqb one.0 0 then next one.1 else (record { index = index; reason = one.0 }, one.1)

  -- so many items from an index on; reason 0 where all were taken
  unfoldable pub take_items : (numbers : List ℕ) → (n i : ℕ) → Tables → Taken × Tables
  take_items numbers zero i t = (record { index = i; reason = 0 }, t)
  take_items numbers (suc n) i t = then_take i (take_item (item_at numbers i) t) (take_items numbers n (i + 1))
