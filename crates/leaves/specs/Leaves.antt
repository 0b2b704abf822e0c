-- Document 02, ask 8: the page that tables map at an address, and what a list of pages to map and unmap leaves of it.
use Rattle.std.specs.Prelude.{ℕ, zero, suc, ◌+◌, Bool, ◌&&◌, List, leb, ltb}
use Rattle.std.specs.Prelude.{if◌then◌else◌}
use Rattle.image.specs.Place.{Place, no_entry, entry_at}
use Rattle.tables.specs.Tables.{present}
use Rattle.tables.specs.Way.{way}
use Rattle.tables.specs.declared.Tree.{Tree}
use Rattle.tables.specs.declared.way.Stop.{Stop}
use Rattle.builder.specs.Items.{item_at}
use Rattle.builder.specs.Reasons.{unmaps, levels_below, leaf_of}
use Rattle.builder.specs.declared.items.Item.{Item}

-- no page, or the entry that maps one, and how many levels of tables come below that entry's
pub data Leaf : Type 0 where
  none : Leaf
  leaf : (below entry : ℕ) → Leaf

abbrev pub on_leaf {ℓ} : {A : Type ℓ} → Leaf → A → (ℕ → ℕ → A) → A
on_leaf none absent some = absent
on_leaf (leaf below e) absent some = some below e

-- where a way ends
abbrev pub leaf_at_stop : Stop → Leaf
leaf_at_stop stop = if present stop.entry then leaf stop.below stop.entry else none

-- the page over an address: at the end of the way to it, all levels down
unfoldable pub leaf_over : (bytes : List ℕ) → Tree → (address : ℕ) → Leaf
leaf_over bytes tree address = leaf_at_stop (way bytes tree address 0)

-- the entry that maps it, by its place in the region
unfoldable pub leaf_place : (bytes : List ℕ) → Tree → (address : ℕ) → Place
leaf_place bytes tree address =
    if present (way bytes tree address 0).entry then entry_at (way bytes tree address 0).at else no_entry

-- an item's page holds an address
abbrev pub holds : Item → (address : ℕ) → Bool
holds item address = leb item.place address && ltb address (item.place + item.size)

-- what an item leaves at an address
abbrev pub left_by : Item → (address : ℕ) → Leaf → Leaf
left_by item address before =
    if holds item address then (if unmaps item then none else leaf (levels_below item) (leaf_of item)) else before

-- and so many items from an index on, one after the other
unfoldable pub left : (numbers : List ℕ) → (n i : ℕ) (address : ℕ) → Leaf → Leaf
left numbers zero i address before = before
left numbers (suc n) i address before = left numbers n (i + 1) address (left_by (item_at numbers i) address before)
