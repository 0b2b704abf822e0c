-- Document 02, ask 8: what the tables map after a list was taken. Proved in proofs/.
use Rattle.std.specs.Prelude.{ℕ, ◌+◌, ◌*◌, ◌^◌, ◌<◌, ◌≤◌, true, false, List, ◌≡◌, length}
use Rattle.registers.specs.declared.Registers.{Registers}
use Rattle.tables.specs.Tables.{Tables, empty_table}
use Rattle.tables.specs.declared.Tree.{Tree}
use Rattle.marking.specs.Marking.{mark_all}
use Rattle.builder.specs.Items.{item_at, take_items}
use Rattle.leaves.specs.Leaves.{leaf_over, leaf_place, holds, left}
use Rattle.leaves.specs.WellBuilt.{Placed, WellBuilt, NoneEmpty}

-- tables that the builder lets pass are as built here
abbrev pub MarkedAsBuilt : Type 0
MarkedAsBuilt =
    (bytes : List ℕ) (tree : Tree) (pages : ℕ) → Placed tree pages → length bytes ≡ 4096 * pages → (mark_all bytes tree pages).0 ≡ true
    → WellBuilt bytes (mark_all bytes tree pages).1 tree

-- and none of them but the top one is empty
abbrev pub MarkedNoneEmpty : Type 0
MarkedNoneEmpty =
    (bytes : List ℕ) (tree : Tree) (pages : ℕ) → Placed tree pages → (mark_all bytes tree pages).0 ≡ true
    → NoneEmpty bytes (mark_all bytes tree pages).1 tree

-- such tables it lets pass, and an empty top table alone
abbrev pub PassAgain : Type 0
PassAgain =
    (bytes marks : List ℕ) (tree : Tree) → WellBuilt bytes marks tree → NoneEmpty bytes marks tree → (mark_all bytes tree (length marks)).0 ≡ true

abbrev pub EmptyPasses : Type 0
EmptyPasses =
    (bytes : List ℕ) (tree : Tree) (pages : ℕ) → Placed tree pages → length bytes ≡ 4096 * pages → tree.top < 4096 * pages
    → empty_table bytes tree.top ≡ true → (mark_all bytes tree pages).0 ≡ true

-- where every item was taken, the tables are as built here again, and at every address that their levels reach they map what the list
-- leaves of what they mapped before; at one in no item's page the entry that maps it stays where it was; and none but the top one is empty
-- if none was
pub record Leaves (tree : Tree) (numbers : List ℕ) (n i : ℕ) (before after : Tables) : Type 0 where
  pub well-built : WellBuilt after.bytes after.marks tree
  pub leaves : (address : ℕ) → address < 2 ^ (12 + 9 * (tree.below + 1))
      → leaf_over after.bytes tree address ≡ left numbers n i address (leaf_over before.bytes tree address)
  pub kept : (address : ℕ) → address < 2 ^ (12 + 9 * (tree.below + 1))
      → ((j : ℕ) → i ≤ j → j < i + n → holds (item_at numbers j) address ≡ false)
      → leaf_place after.bytes tree address ≡ leaf_place before.bytes tree address
  pub none-empty : NoneEmpty before.bytes before.marks tree → NoneEmpty after.bytes after.marks tree

abbrev pub ItemsLeave : Type 0
ItemsLeave =
    (registers : Registers) (tree : Tree) (numbers : List ℕ) (n i : ℕ) (t : Tables) → registers.haw ≤ 52
    → WellBuilt t.bytes t.marks tree → (take_items registers tree numbers n i t).0.reason ≡ 0
    → Leaves tree numbers n i t (take_items registers tree numbers n i t).1
