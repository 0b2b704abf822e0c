-- Items are taken by stores of words alone: what each store keeps of the region's bytes, the whole list keeps.
use Prim.Native.Nat.{ℕ, zero, suc, ◌+◌, ◌-◌, ◌*◌}
use mathlib.Core.List.{List}
use lib.Dec.{eqb, ltb}
use Rattle.image.proofs.Choices.{either}
use Rattle.image.specs.Memory.{with_word}
use Rattle.dma.specs.Walk.{place_in}
use Rattle.registers.specs.declared.Registers.{Registers}
use Rattle.tables.specs.Mapped.{new_table, with_leaf, mapped}
use Rattle.tables.specs.Pages.{lowest, free_pages}
use Rattle.tables.specs.Tables.{Tables, tables, present, table_entry, empty_table, words_zeroed}
use Rattle.tables.specs.Unmapped.{without_table, freed_tables, leaf_here, unmapped}
use Rattle.tables.specs.Way.{way}
use Rattle.tables.specs.declared.Tree.{Tree}
use Rattle.builder.specs.Items.{item_at, take_item, take_items}
use Rattle.builder.specs.Reasons.{unmaps, levels_below, leaf_of, item_reason}
use Rattle.builder.specs.declared.items.Item.{Item}
use Rattle.builder.specs.Items.{Taken}

module _ (P : List ℕ → Type 0) (keeps : (bytes : List ℕ) (at word : ℕ) → P bytes → P (with_word bytes at word)) where
  zeroed-keeps : (n : ℕ) (bytes : List ℕ) (at : ℕ) → P bytes → P (words_zeroed n bytes at)
  unfolding words_zeroed
  zeroed-keeps zero bytes at p = p
  zeroed-keeps (suc n) bytes at p = zeroed-keeps n (with_word bytes at 0) (at + 8) (keeps bytes at 0 p)

  leaf-keeps : (start place last leaf n at : ℕ) (t : Tables) → P t.bytes → P (with_leaf start place last leaf n at t).bytes
  unfolding with_leaf
  leaf-keeps start place last leaf zero at t p = keeps t.bytes at leaf p
  leaf-keeps start place last leaf (suc k) at t p =
      let page = 4096 * lowest t.marks in
      leaf-keeps start place last leaf k (place_in place page (last + k)) (new_table start at (last + suc k) t)
      (keeps (words_zeroed 512 t.bytes page) at (table_entry start page) (zeroed-keeps 512 t.bytes page p))

  abbrev After : ℕ × Tables → Type 0
  After end = P end.1.bytes

  map-keeps : (tree : Tree) (place last leaf : ℕ) (t : Tables) → P t.bytes → After (mapped tree place last leaf t)
  unfolding mapped
  map-keeps tree place last leaf t p =
      let stop = way t.bytes tree place last in
      either After (present stop.entry) p
      (either After (ltb (free_pages t.marks) (stop.below - last)) p
      (leaf-keeps tree.start place last leaf (stop.below - last) stop.at t p))

  released-keeps : (tree : Tree) (place n below : ℕ) (t : Tables) → P t.bytes → P (freed_tables tree place n below t).bytes
  unfolding freed_tables
  released-keeps tree place zero below t p = p
  released-keeps tree place (suc k) below t p =
      let table = (way t.bytes tree place below).table in
      let at = (way t.bytes tree place (suc below)).at in
      either (λ (u : Tables). P u.bytes) (empty_table t.bytes table)
      (released-keeps tree place k (suc below) (without_table table at t) (keeps t.bytes at 0 p)) p

  unmap-keeps : (tree : Tree) (place last : ℕ) (t : Tables) → P t.bytes → After (unmapped tree place last t)
  unfolding unmapped
  unmap-keeps tree place last t p =
      let at = (way t.bytes tree place last).at in
      either After (leaf_here last (way t.bytes tree place last))
      (released-keeps tree place (tree.below - last) last (tables (with_word t.bytes at 0) t.marks) (keeps t.bytes at 0 p)) p

  item-keeps : (registers : Registers) (tree : Tree) (item : Item) (t : Tables) → P t.bytes → After (take_item registers tree item t)
  unfolding take_item
  item-keeps registers tree item t p =
      either After (eqb (item_reason registers (tree.below + 1) item) 0)
      (either After (unmaps item) (unmap-keeps tree item.place (levels_below item) t p) (map-keeps tree item.place (levels_below item) (leaf_of item) t p)) p

  pub items_keep : (registers : Registers) (tree : Tree) (numbers : List ℕ) (n i : ℕ) (t : Tables) → P t.bytes
      → P (take_items registers tree numbers n i t).1.bytes
  unfolding take_items
  items_keep registers tree numbers zero i t p = p
  items_keep registers tree numbers (suc n) i t p =
      let one = take_item registers tree (item_at numbers i) t in
      let kept = item-keeps registers tree (item_at numbers i) t p in
      either (λ (end : Taken × Tables). P end.1.bytes) (eqb one.0 0) (items_keep registers tree numbers n (i + 1) one.1 kept) kept
