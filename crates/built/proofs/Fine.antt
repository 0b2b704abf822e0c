-- What an item with no reason against it is, and the entry that maps its page.
use Prim.Native.Nat.{ℕ, suc, ◌+◌, ◌-◌, ◌*◌, ◌/◌, ◌%◌, ◌^◌, ◌≤◌, ◌<◌, min}
use mathlib.Core.Bool.{Bool, true, false, not, ◌&&◌, ◌||◌, and-false}
use mathlib.Core.Path.{◌≡◌, refl, ap, sym, ◌∙◌, subst}
use mathlib.Core.Logic.{◌⊎◌, inl, inr, ⊎_elim}
use native.Mathlib.Decide.{dec_le}
use native.Mathlib.Nat.{le_refl, mod-lt}
use native.Mathlib.Omega.{arith}
use borrow.Author.Tests.{leb-true, leb-false, le-leb, lt-leb, ltb-true, lt-ltb, eqb-true, not-false}
use lib.Dec.{eqb, leb, ltb}
use lib.Pow.{pow-add, pow_mono}
use Rattle.image.specs.Bits.{bits, bit, any_set, in_place}
use Rattle.image.proofs.Choices.{both, neither}
use Rattle.image.proofs.Fields.{past_top}
use Rattle.registers.specs.Admission.{in_interrupt_range}
use Rattle.registers.specs.declared.Registers.{Registers}
use Rattle.dma.specs.InterruptRange.{meets_interrupt_range, span_at}
use Rattle.dma.specs.Page.{page_reserved, host_address}
use Rattle.dma.specs.Translation.{overflows}
use Rattle.dma.proofs.Reserved.{small, at-2}
use Rattle.dma.proofs.Steps.{offset-of}
use Rattle.builder.specs.Reasons.{unmaps, rights, is_large, levels_below, leaf_of, bad_size, bad_alignment, bad_place, bad_frame, place_reason, map_reason, item_reason}
use Rattle.builder.specs.declared.items.Item.{Item}
use Rattle.builder.proofs.ItemLaws.{none_of, both-0}
use Rattle.leaves.specs.Leaves.{holds}

-- a page of 4 KiB or 2 MiB
pub data Size (registers : Registers) (item : Item) : Type 0 where
  page4_k : item.size ≡ 0x1000 → levels_below item ≡ 0 → is_large item ≡ false → Size registers item
  page2_m : item.size ≡ 0x20_0000 → levels_below item ≡ 1 → is_large item ≡ true → registers.pages_2m ≡ true → Size registers item

-- bytes that miss the interrupt range
missed : (place size : ℕ) → meets_interrupt_range place size ≡ false → (place + size ≤ 0xFEE0_0000) ⊎ (0xFEEF_FFFF < place)
missed place size h = by (dec_le (place + size) 0xFEE0_0000) (dec_le place 0xFEEF_FFFF)
  where
    by : Dec (place + size ≤ 0xFEE0_0000) → Dec (place ≤ 0xFEEF_FFFF) → (place + size ≤ 0xFEE0_0000) ⊎ (0xFEEF_FFFF < place)
    by (yes low) high = inl low
    by (no low) (no high) = inr (omega arith)
    by (no low) (yes high) =
        let all : meets_interrupt_range place size ≡ true = rw (lt-ltb 0xFEE0_0000 (place + size) (omega arith), le-leb place 0xFEEF_FFFF high) in
        let z : ◌≡◌ {A = Bool} true false = sym all ∙ h in
        let y : ◌≡◌ {A = ℕ} 0 1 = cc in
        absurd (omega arith)

module _ (registers : Registers) (levels : ℕ) (item : Item) (fine : item_reason registers levels item ≡ 0) where
  place-fine : (bad_size registers item ≡ false) × (bad_alignment item ≡ false) × (bad_place registers levels item ≡ false)
  unfolding place_reason
  place-fine =
      let p = (both-0 (place_reason registers levels item) (map_reason registers item) fine).0 in
      let h1 = none_of (bad_size registers item) 1 _ (omega arith) p in
      let h2 = none_of (bad_alignment item) 2 _ (omega arith) h1.1 in
      let h3 = none_of (bad_place registers levels item) 3 0 (omega arith) h2.1 in
      (h1.0, h2.0, h3.0)

  pub size_of : Size registers item
  size_of = by (eqb item.size 0x1000) refl (not-false _ place-fine.0)
    where
      by : (t : Bool) → eqb item.size 0x1000 ≡ t → (t || is_large item && registers.pages_2m) ≡ true → Size registers item
      by true e h =
          let is = eqb-true item.size 0x1000 e in
          let no : is_large item ≡ false = ap (λ (n : ℕ). eqb n 0x20_0000) is in
          page4_k is (rw no) no
      by false e h =
          let large = both (is_large item) registers.pages_2m h in
          page2_m (eqb-true item.size 0x20_0000 large.0) (rw large.0) large.0 large.1

  aligned : item.place % item.size ≡ 0
  aligned = eqb-true (item.place % item.size) 0 (not-false _ (neither (not (eqb (item.place % item.size) 0)) _ place-fine.1).0)

  place-free : (overflows registers levels item.place ≡ false) × (meets_interrupt_range item.place item.size ≡ false)
  place-free = neither (overflows registers levels item.place) (meets_interrupt_range item.place item.size) place-fine.2

  -- an address of its page
  module _ (address : ℕ) (over : holds item address ≡ true) where
    in-page : (item.place ≤ address) × (address < item.place + item.size)
    in-page =
        let h = both (leb item.place address) (ltb address (item.place + item.size)) over in
        (leb-true item.place address h.0, ltb-true address (item.place + item.size) h.1)

    pub no-interrupt : in_interrupt_range address ≡ false
    no-interrupt = by (missed item.place item.size place-free.1)
      where
        by : (item.place + item.size ≤ 0xFEE0_0000) ⊎ (0xFEEF_FFFF < item.place) → in_interrupt_range address ≡ false
        by (inl low) = rw (lt-leb 0xFEE0_0000 address (omega (arith, in-page.1)))
        by (inr high) = rw (lt-leb address 0xFEEF_FFFF (omega (arith, in-page.0))) (and-false (leb 0xFEE0_0000 address))

    pub narrow : 39 ≤ registers.mgaw → 2 ≤ levels → overflows registers levels address ≡ false
    narrow wide deep =
        let k = min registers.mgaw (12 + 9 * levels) in
        let more : 21 ≤ k = omega arith in
        let split : k ≡ 21 + (k - 21) = omega arith in
        let whole : 2 ^ k ≡ 2 ^ 21 * 2 ^ (k - 21) = ap (λ (n : ℕ). 2 ^ n) split ∙ pow-add 2 21 (k - 21) in
        let low = leb-false (2 ^ k) item.place place-free.0 in
        lt-leb (2 ^ k) address (by (2 ^ k) (2 ^ (k - 21)) whole low size_of)
      where
        by : (end part : ℕ) → end ≡ 2 ^ 21 * part → item.place < end → Size registers item → address < end
        by end part whole low (page4_k is below large) =
            let a : item.place % 0x1000 ≡ 0 = subst (λ (n : ℕ). item.place % n ≡ 0) is aligned in
            omega (arith, in-page.1)
        by end part whole low (page2_m is below large on) =
            let a : item.place % 0x20_0000 ≡ 0 = subst (λ (n : ℕ). item.place % n ≡ 0) is aligned in
            omega (arith, in-page.1)

    pub host : (frame : ℕ) → host_address (suc (levels_below item)) frame address ≡ frame + (address - item.place)
    host frame = ap (λ (n : ℕ). frame + n) (sym (offset-of address (suc (levels_below item))) ∙ by size_of)
      where
        by : Size registers item → address % 2 ^ (12 + 9 * (suc (levels_below item) - 1)) ≡ address - item.place
        by (page4_k is below large) =
            let a : item.place % 0x1000 ≡ 0 = subst (λ (n : ℕ). item.place % n ≡ 0) is aligned in
            rw below (omega (arith, in-page.0, in-page.1))
        by (page2_m is below large on) =
            let a : item.place % 0x20_0000 ≡ 0 = subst (λ (n : ℕ). item.place % n ≡ 0) is aligned in
            rw below (omega (arith, in-page.0, in-page.1))

-- an entry of a frame, rights and bit 7 or none, by its fields
module _ (frame r x : ℕ) (page : frame % 4096 ≡ 0) (few : r < 4) (only : (x ≡ 0) ⊎ (x ≡ 128)) where
  abbrev made : ℕ
  made = frame + r + x

  low_bits : bits made 1 0 ≡ r
  unfolding bits
  low_bits = ⊎_elim (λ z. omega arith) (λ z. omega arith) only

  read-bit : bits made 0 0 ≡ r % 2
  unfolding bits
  read-bit = ⊎_elim (λ z. omega arith) (λ z. omega arith) only

  write-bit : bits made 1 1 ≡ r / 2
  unfolding bits
  write-bit =
      let half : made / 2 ≡ 2 * (1024 * (frame / 4096) + x / 4) + r / 2 = ⊎_elim (λ z. omega arith) (λ z. omega arith) only in
      rw half (omega arith)

  frame-field : frame < 2 ^ 52 → in_place made 51 12 ≡ frame
  unfolding bits
  frame-field below = ⊎_elim (λ z. omega arith) (λ z. omega arith) only

seventh : (frame r x : ℕ) → frame % 4096 ≡ 0 → r < 4 → x < 2 → bits (frame + r + 128 * x) 7 7 ≡ x
unfolding bits
seventh frame r x page few one =
    let half : (frame + r + 128 * x) / 128 ≡ 2 * (16 * (frame / 4096)) + x = omega arith in
    rw half (omega arith)

-- the rights of an item
pub right-bits : (what : ℕ) → (bits what 0 0 ≡ bits what 1 0 % 2) × (bits what 1 1 ≡ bits what 1 0 / 2)
unfolding bits
right-bits what =
    let parts : what / 2 ≡ 2 * (what / 4) + what % 4 / 2 = omega arith in
    (omega arith, rw parts (omega arith))

-- what a map's entry says
pub record Leaf (registers : Registers) (item : Item) : Type 0 where
  pub any : any_set (leaf_of item) 1 0 ≡ true
  pub free : page_reserved registers (suc (levels_below item)) (leaf_of item) ≡ false
  pub read : bit (leaf_of item) 0 ≡ bit item.what 0
  pub write : bit (leaf_of item) 1 ≡ bit item.what 1
  pub frame : in_place (leaf_of item) 51 12 ≡ item.frame
  pub span : span_at (suc (levels_below item)) ≡ item.size
  pub clear : meets_interrupt_range item.frame (span_at (suc (levels_below item))) ≡ false

module _ (registers : Registers) (levels : ℕ) (item : Item) (fine : item_reason registers levels item ≡ 0) (maps : unmaps item ≡ false)
    (low : 36 ≤ registers.haw) (high : registers.haw ≤ 52) where
  map-fine : (eqb (rights item) 0 ≡ false) × (leb (2 ^ registers.haw) item.frame ≡ false) × (meets_interrupt_range item.frame item.size ≡ false)
  unfolding map_reason
  map-fine =
      let r = (both-0 (place_reason registers levels item) (map_reason registers item) fine).1 in
      let h1 = none_of (eqb (rights item) 0) 4 _ (omega arith) (rw maps at r) in
      let h2 = none_of (bad_frame registers item) 5 0 (omega arith) h1.1 in
      let h3 = neither (leb (2 ^ registers.haw) item.frame) (meets_interrupt_range item.frame item.size) h2.0 in
      (h1.0, h3.0, h3.1)

  frame-aligned : item.frame % item.size ≡ 0
  frame-aligned =
      let h = (neither (not (eqb (item.place % item.size) 0)) (not (unmaps item) && not (eqb (item.frame % item.size) 0)) (place-fine registers levels item fine).1).1 in
      let k : not (eqb (item.frame % item.size) 0) ≡ false = rw maps at h in
      eqb-true (item.frame % item.size) 0 (not-false _ k)

  few : rights item < 4
  unfolding bits
  few = mod-lt (item.what / 1) (omega arith)

  below : item.frame < 2 ^ registers.haw
  below = leb-false (2 ^ registers.haw) item.frame map-fine.1

  whole : 2 ^ registers.haw ≡ 4096 * 2 ^ (registers.haw - 12)
  whole = let split : registers.haw ≡ 12 + (registers.haw - 12) = omega arith in ap (λ (n : ℕ). 2 ^ n) split ∙ pow-add 2 12 (registers.haw - 12)

  -- over bit 7 or none
  module _ (x : ℕ) (only : (x ≡ 0) ⊎ (x ≡ 128)) (page : item.frame % 4096 ≡ 0) (is : leaf_of item ≡ item.frame + rights item + x) where
    under : item.frame + rights item + x < 2 ^ registers.haw
    under = let f = few in let b = below in let w = whole in ⊎_elim (λ z. omega arith) (λ z. omega arith) only

    field-any : any_set (leaf_of item) 1 0 ≡ true
    field-any = rw (is, low_bits item.frame (rights item) x page few only) (ap not map-fine.0)

    field-read : bit (leaf_of item) 0 ≡ bit item.what 0
    field-read = rw (is) (ap (λ (n : ℕ). eqb n 1) (read-bit item.frame (rights item) x page few only ∙ sym (right-bits item.what).0))

    field-write : bit (leaf_of item) 1 ≡ bit item.what 1
    field-write = rw (is) (ap (λ (n : ℕ). eqb n 1) (write-bit item.frame (rights item) x page few only ∙ sym (right-bits item.what).1))

    field-frame : in_place (leaf_of item) 51 12 ≡ item.frame
    field-frame = rw (is) (frame-field item.frame (rights item) x page few only (omega (arith, below, pow_mono {i = registers.haw} {j = 52} high)))

    field-high : any_set (leaf_of item) 51 registers.haw ≡ false
    field-high =
        rw (is)
        (ap (λ (n : ℕ). not (eqb n 0)) (past_top (item.frame + rights item + x) registers.haw 51 {low = registers.haw} under (le_refl registers.haw)))

  pub leaf-of : Leaf registers item
  unfolding leaf_of bits
  leaf-of = by (size_of registers levels item fine)
    where
      by : Size registers item → Leaf registers item
      by (page4_k size_is below-is small-page) =
          let page : item.frame % 4096 ≡ 0 = subst (λ (n : ℕ). item.frame % n ≡ 0) size_is frame-aligned in
          let is : leaf_of item ≡ item.frame + rights item + 0 = rw small-page in
          let bit7 : bit (leaf_of item) 7 ≡ false = rw is (ap (λ (n : ℕ). eqb n 1) (seventh item.frame (rights item) 0 page few (omega arith))) in
          record {
            any = field-any 0 (inl refl) page is;
            free = small registers (leaf_of item) (suc (levels_below item)) bit7 ∙ field-high 0 (inl refl) page is;
            read = field-read 0 (inl refl) page is;
            write = field-write 0 (inl refl) page is;
            frame = field-frame 0 (inl refl) page is;
            span = rw (below-is, size_is);
            clear = rw below-is (rw size_is at map-fine.2);
          }
      by (page2_m size_is below-is large on) =
          let page2 : item.frame % 0x20_0000 ≡ 0 = subst (λ (n : ℕ). item.frame % n ≡ 0) size_is frame-aligned in
          let page : item.frame % 4096 ≡ 0 = omega arith in
          let is : leaf_of item ≡ item.frame + rights item + 128 = rw large in
          let bit7 : bit (leaf_of item) 7 ≡ true = rw is (ap (λ (n : ℕ). eqb n 1) (seventh item.frame (rights item) 1 page few (omega arith))) in
          let f = few in
          let low-frame : bits (leaf_of item) 20 12 ≡ 0 = rw is (omega arith) in
          record {
            any = field-any 128 (inr refl) page is;
            free =
                rw below-is
                (at-2 registers (leaf_of item) bit7
                ∙ rw (field-high 128 (inr refl) page is, on, low-frame));
            read = field-read 128 (inr refl) page is;
            write = field-write 128 (inr refl) page is;
            frame = field-frame 128 (inr refl) page is;
            span = rw (below-is, size_is);
            clear = rw below-is (rw size_is at map-fine.2);
          }
