-- What a list leaves, item after item.
use Prim.Native.Nat.{ℕ, zero, suc, ◌+◌, ◌*◌, ◌/◌, ◌%◌, ◌^◌, ◌<◌, ◌≤◌, min}
use mathlib.Core.Bool.{Bool, true, false, not, ◌&&◌, ◌||◌}
use mathlib.Core.Path.{◌≡◌, refl, ap, sym, ◌∙◌}
use native.Mathlib.Nat.{div-one, min-le_right}
use native.Mathlib.Omega.{arith}
use borrow.Author.Tests.{eqb-true, eqb-false, ne_eqb, leb-true, leb-false, ltb-true, le-leb, lt-ltb, not-false}
use lib.Dec.{eqb, leb, ltb}
use lib.Pow.{pow_mono}
use Rattle.image.specs.Bits.{bits}
use Rattle.std.specs.Prelude.{if◌then◌else◌}
use Rattle.image.proofs.Choices.{both, neither}
use Rattle.image.proofs.Fields.{fits}
use Rattle.registers.specs.declared.Registers.{Registers}
use Rattle.dma.specs.InterruptRange.{meets_interrupt_range}
use Rattle.dma.specs.Translation.{overflows}
use Rattle.tables.specs.Mapped.{mapped}
use Rattle.tables.specs.Tables.{Tables, present, maps_page}
use Rattle.tables.specs.Unmapped.{unmapped}
use Rattle.tables.specs.declared.Tree.{Tree}
use Rattle.builder.specs.Items.{item_at, changed, take_item, take_items}
use Rattle.builder.specs.Reasons.{unmaps, rights, is_large, levels_below, leaf_of, bad_size, bad_alignment, bad_place, place_reason, map_reason, item_reason}
use Rattle.builder.specs.declared.items.Item.{Item}
use Rattle.builder.specs.Items.{Taken}
use Rattle.builder.proofs.ItemLaws.{none_of, both-0, frame_below}
use Rattle.leaves.specs.Claims.{Leaves, ItemsLeave}
use Rattle.leaves.specs.Leaves.{Leaf, none, leaf, leaf_over, leaf_place, holds, left_by, left}
use Rattle.leaves.specs.WellBuilt.{WellBuilt, NoneEmpty}
use Rattle.leaves.proofs.Addresses.{above}
use Rattle.leaves.proofs.Mapped.{Changed, mapped-changed}
use Rattle.leaves.proofs.Passes.{end_over, leaf-same, place_same}
use Rattle.leaves.proofs.Unmapped.{unmapped-changed}

-- an item's size, with the levels below its entry
pub data Sized (size last : ℕ) : Type 0 where
  small : size ≡ 0x1000 → last ≡ 0 → Sized size last
  large : size ≡ 0x20_0000 → last ≡ 1 → Sized size last

-- the addresses of a page are those with its bits above it
module _ (place size last q : ℕ) (aligned : place % size ≡ 0) where
  within : (leb place q && ltb q (place + size)) ≡ true → (place ≤ q) × (q < place + size)
  within h =
      let b = both (leb place q) (ltb q (place + size)) h in
      (leb-true place q b.0, ltb-true q (place + size) b.1)

  in-page : Sized size last → (leb place q && ltb q (place + size)) ≡ true → above q last ≡ above place last
  in-page (small s l) h =
      let a : place % 0x1000 ≡ 0 = rw s at aligned in
      rw l (omega (arith, (within h).0, (within h).1))
  in-page (large s l) h =
      let a : place % 0x20_0000 ≡ 0 = rw s at aligned in
      rw l (omega (arith, (within h).0, (within h).1))

  outside : (leb place q && ltb q (place + size)) ≡ false → place ≤ q → q < place + size → ⊥
  outside h from to =
      let z : ◌≡◌ {A = Bool} true false = sym (rw (le-leb place q from, lt-ltb q (place + size) to) refl) ∙ h in
      let y : ◌≡◌ {A = ℕ} 0 1 = cc in
      omega arith

  out-of-page : Sized size last → (leb place q && ltb q (place + size)) ≡ false → above q last ≡ above place last → ⊥
  out-of-page (small s l) h same =
      let a : place % 0x1000 ≡ 0 = rw s at aligned in
      let e : q / 0x1000 ≡ place / 0x1000 = rw l at same in
      outside h (omega arith) (omega arith)
  out-of-page (large s l) h same =
      let a : place % 0x20_0000 ≡ 0 = rw s at aligned in
      let e : q / 0x20_0000 ≡ place / 0x20_0000 = rw l at same in
      outside h (omega arith) (omega arith)

-- bits 1:0, and bit 7 in an entry with one level below it
low-set : (e r : ℕ) → e % 4 ≡ r → (r ≡ 0 → ⊥) → present e ≡ true
unfolding bits
low-set e r h some = let low : e / 2 ^ 0 % 2 ^ 2 ≡ r = rw (div-one e) h in rw (low, ne_eqb r 0 some)

seven-set : (e : ℕ) → e / 128 % 2 ≡ 1 → maps_page 1 e ≡ true
unfolding bits
seven-set e h = let seven : e / 2 ^ 7 % 2 ^ 1 ≡ 1 = h in rw seven

-- what no reason against an item says
module _ (registers : Registers) (levels : ℕ) (item : Item) (fine : item_reason registers levels item ≡ 0) where
  placed : place_reason registers levels item ≡ 0
  placed = (both-0 (place_reason registers levels item) (map_reason registers item) fine).0

  good-size : bad_size registers item ≡ false
  unfolding place_reason
  good-size = (none_of (bad_size registers item) 1 _ (omega arith) placed).0

  good-alignment : bad_alignment item ≡ false
  unfolding place_reason
  good-alignment = (none_of (bad_alignment item) 2 _ (omega arith) (none_of (bad_size registers item) 1 _ (omega arith) placed).1).0

  good-place : bad_place registers levels item ≡ false
  unfolding place_reason
  good-place =
      (none_of (bad_place registers levels item) 3 0 (omega arith)
      (none_of (bad_alignment item) 2 _ (omega arith) (none_of (bad_size registers item) 1 _ (omega arith) placed).1).1).0

  sized : Sized item.size (levels_below item)
  sized = go (is_large item) refl (not-false _ good-size)
    where
      go : (t : Bool) → is_large item ≡ t → (eqb item.size 0x1000 || t && registers.pages_2m) ≡ true
          → Sized item.size (if t then 1 else 0)
      go true e k = large (eqb-true item.size 0x20_0000 e) refl
      go false e k = small (eqb-true item.size 0x1000 (only (eqb item.size 0x1000) k)) refl
        where
          only : (t : Bool) → (t || false) ≡ true → t ≡ true
          only true h = refl
          only false h = h

  aligned : item.place % item.size ≡ 0
  aligned =
      eqb-true (item.place % item.size) 0
      (not-false (eqb (item.place % item.size) 0)
      (neither (not (eqb (item.place % item.size) 0)) (not (unmaps item) && not (eqb (item.frame % item.size) 0)) good-alignment).0)

  reached : item.place < 2 ^ (12 + 9 * levels)
  reached =
      let b = leb-false (2 ^ min registers.mgaw (12 + 9 * levels)) item.place (neither (overflows registers levels item.place) (meets_interrupt_range item.place item.size) good-place).0 in
      let m = pow_mono {i = min registers.mgaw (12 + 9 * levels)} {j = 12 + 9 * levels} (min-le_right registers.mgaw (12 + 9 * levels)) in
      omega (arith, b, m)

  module _ (maps : unmaps item ≡ false) where
    frame-aligned : item.frame % item.size ≡ 0
    frame-aligned =
        let b = (neither (not (eqb (item.place % item.size) 0)) (not (unmaps item) && not (eqb (item.frame % item.size) 0)) good-alignment).1 in
        eqb-true (item.frame % item.size) 0 (not-false (eqb (item.frame % item.size) 0) (rw maps at b))

    some-rights : rights item ≡ 0 → ⊥
    unfolding map_reason
    some-rights =
        let m = (both-0 (place_reason registers levels item) (map_reason registers item) fine).1 in
        eqb-false (rights item) 0 (none_of (eqb (rights item) 0) 4 _ (omega arith) (rw maps at m)).0

    few-rights : rights item < 4
    few-rights = fits item.what 1 0

    leaf-fits : registers.haw ≤ 52 → leaf_of item < 2 ^ 64
    unfolding leaf_of
    leaf-fits haw = go (is_large item)
      where
        go : (t : Bool) → item.frame + rights item + (if t then 0x80 else 0) < 2 ^ 64
        go true = omega (arith, few-rights, frame_below registers levels item fine maps (omega arith))
        go false = omega (arith, few-rights, frame_below registers levels item fine maps (omega arith))

    leaf-present : present (leaf_of item) ≡ true
    unfolding leaf_of
    leaf-present = go (is_large item) (sized)
      where
        go : (t : Bool) → Sized item.size (if t then 1 else 0) → present (item.frame + rights item + (if t then 0x80 else 0)) ≡ true
        go true (small s l) = absurd (omega arith)
        go true (large s l) =
            let a : item.frame % 0x20_0000 ≡ 0 = rw s at frame-aligned in
            low-set (item.frame + rights item + 0x80) (rights item) (omega (arith, few-rights)) some-rights
        go false (small s l) =
            let a : item.frame % 0x1000 ≡ 0 = rw s at frame-aligned in
            low-set (item.frame + rights item + 0) (rights item) (omega (arith, few-rights)) some-rights
        go false (large s l) = absurd (omega arith)

    leaf-maps : maps_page (levels_below item) (leaf_of item) ≡ true
    unfolding leaf_of
    leaf-maps = go (is_large item) (sized)
      where
        go : (t : Bool) → Sized item.size (if t then 1 else 0)
            → maps_page (if t then 1 else 0) (item.frame + rights item + (if t then 0x80 else 0)) ≡ true
        go true (small s l) = absurd (omega arith)
        go true (large s l) =
            let a : item.frame % 0x20_0000 ≡ 0 = rw s at frame-aligned in
            let whole : (item.frame + rights item + 0x80) / 128 ≡ 2 * (8192 * (item.frame / 0x20_0000)) + 1 = omega (arith, few-rights) in
            seven-set (item.frame + rights item + 0x80) (rw whole (omega arith))
        go false k = refl

module _ (registers : Registers) (tree : Tree) (item : Item) (t : Tables) (haw : registers.haw ≤ 52) (w : WellBuilt t.bytes t.marks tree) where
  -- an item taken
  pub record Left (after : Tables) : Type 0 where
    pub built : WellBuilt after.bytes after.marks tree
    pub leaves : (q : ℕ) → q < 2 ^ (12 + 9 * (tree.below + 1)) → leaf_over after.bytes tree q ≡ left_by item q (leaf_over t.bytes tree q)
    pub kept : (q : ℕ) → q < 2 ^ (12 + 9 * (tree.below + 1)) → holds item q ≡ false → leaf_place after.bytes tree q ≡ leaf_place t.bytes tree q
    pub none-empty : NoneEmpty t.bytes t.marks tree → NoneEmpty after.bytes after.marks tree

  module _ (fine : item_reason registers (tree.below + 1) item ≡ 0) where
    left-of : (now : Leaf) → now ≡ (if unmaps item then none else leaf (levels_below item) (leaf_of item)) → {after : Tables}
        → Changed tree item.place (levels_below item) now t after (NoneEmpty t.bytes t.marks tree) → Left after
    left-of now is {after} c =
        record {
          built = c.built;
          leaves = λ q hq. go q hq (holds item q) refl;
          kept = λ q hq h. place_same t.bytes after.bytes tree q (apart q hq h);
          none-empty = c.filled;
        }
      where
        apart : (q : ℕ) → q < 2 ^ (12 + 9 * (tree.below + 1)) → holds item q ≡ false → end_over after.bytes tree q ≡ end_over t.bytes tree q
        apart q hq h =
            c.elsewhere q hq (out-of-page item.place item.size (levels_below item) q (aligned registers (tree.below + 1) item fine) (sized registers (tree.below + 1) item fine) h)

        go : (q : ℕ) → q < 2 ^ (12 + 9 * (tree.below + 1)) → (h : Bool) → holds item q ≡ h
            → leaf_over after.bytes tree q ≡ (if h then (if unmaps item then none else leaf (levels_below item) (leaf_of item)) else leaf_over t.bytes tree q)
        go q hq true h =
            c.here q (in-page item.place item.size (levels_below item) q (aligned registers (tree.below + 1) item fine) (sized registers (tree.below + 1) item fine) h) ∙ is
        go q hq false h = leaf-same t.bytes after.bytes tree q (apart q hq h)

    not-deep : levels_below item ≤ tree.below
    not-deep = go (is_large item)
      where
        go : (t : Bool) → (if t then 1 else 0) ≤ tree.below
        go true = omega (arith, w.placed.deep)
        go false = omega arith

    changed-left : (changed registers tree item t).0 ≡ 0 → Left (changed registers tree item t).1
    changed-left = go (unmaps item) refl
      where
        go : (u : Bool) → unmaps item ≡ u
            → (if◌then◌else◌ {A = ℕ × Tables} u (unmapped tree item.place (levels_below item) t) (mapped tree item.place (levels_below item) (leaf_of item) t)).0 ≡ 0
            → Left (if◌then◌else◌ {A = ℕ × Tables} u (unmapped tree item.place (levels_below item) t) (mapped tree item.place (levels_below item) (leaf_of item) t)).1
        go true e h =
            left-of none (rw e)
            (unmapped-changed tree item.place (levels_below item) (reached registers (tree.below + 1) item fine) t w not-deep h)
        go false e h =
            left-of (leaf (levels_below item) (leaf_of item)) (rw e)
            (mapped-changed tree item.place (levels_below item) (leaf_of item) (reached registers (tree.below + 1) item fine) (leaf-fits registers (tree.below + 1) item fine e haw) (leaf-present registers (tree.below + 1) item fine e) (leaf-maps registers (tree.below + 1) item fine e) t w not-deep h)

  pub item-left : (take_item registers tree item t).0 ≡ 0 → Left (take_item registers tree item t).1
  unfolding take_item
  item-left = go (eqb (item_reason registers (tree.below + 1) item) 0) refl
    where
      go : (b : Bool) → eqb (item_reason registers (tree.below + 1) item) 0 ≡ b
          → (if◌then◌else◌ {A = ℕ × Tables} b (changed registers tree item t) (item_reason registers (tree.below + 1) item, t)).0 ≡ 0
          → Left (if◌then◌else◌ {A = ℕ × Tables} b (changed registers tree item t) (item_reason registers (tree.below + 1) item, t)).1
      go true e h = changed-left (eqb-true (item_reason registers (tree.below + 1) item) 0 e) h
      go false e h = absurd (eqb-false (item_reason registers (tree.below + 1) item) 0 e h)

pub items-leave : ItemsLeave
unfolding take_items left
items-leave registers tree numbers zero i t haw w h = record { well-built = w; leaves = λ q hq. refl; kept = λ q hq off. refl; none-empty = λ h. h }
items-leave registers tree numbers (suc n) i t haw w h =
    go (eqb (take_item registers tree (item_at numbers i) t).0 0) refl h (items-leave registers tree numbers n (i + 1))
  where
    one : ℕ × Tables
    one = take_item registers tree (item_at numbers i) t

    go : (b : Bool) → eqb one.0 0 ≡ b
        → (if◌then◌else◌ {A = Taken × Tables} b (take_items registers tree numbers n (i + 1) one.1) (record { index = i; reason = one.0 }, one.1)).0.reason ≡ 0
        → ((u : Tables) → registers.haw ≤ 52 → WellBuilt u.bytes u.marks tree → (take_items registers tree numbers n (i + 1) u).0.reason ≡ 0
        → Leaves tree numbers n (i + 1) u (take_items registers tree numbers n (i + 1) u).1)
        → Leaves tree numbers (suc n) i t (if◌then◌else◌ {A = Taken × Tables} b (take_items registers tree numbers n (i + 1) one.1) (record { index = i; reason = one.0 }, one.1)).1
    go true e h on =
        let l = item-left registers tree (item_at numbers i) t haw w (eqb-true one.0 0 e) in
        let rest = on one.1 haw l.built h in
        record {
          well-built = rest.well-built;
          leaves = λ q hq. rest.leaves q hq ∙ ap (left numbers n (i + 1) q) (l.leaves q hq);
          kept = λ q hq off. rest.kept q hq (λ j from to. off j (omega arith) (omega arith)) ∙ l.kept q hq (off i (omega arith) (omega arith));
          none-empty = λ full. rest.none-empty (l.none-empty full);
        }
    go false e h on = absurd (eqb-false one.0 0 e h)
