-- A region that shares no byte with the unit's other tables: root, context and interrupt entries and posted descriptors are the same after a
-- build as before.
use Prim.Native.Nat.{ℕ, zero, suc, ◌+◌, ◌*◌, ◌^◌, ◌≤◌, ◌<◌}
use mathlib.Core.Bool.{Bool, true, false, not, ◌&&◌}
use mathlib.Core.Path.{◌≡◌, sym, ◌∙◌, subst}
use mathlib.Core.Logic.{◌⊎◌, inl, inr}
use native.Mathlib.Decide.{dec_le}
use native.Mathlib.Omega.{arith}
use borrow.Author.Tests.{lt-ltb, ne_eqb, not-false}
use Rattle.image.specs.Bits.{bit, in_place}
use Rattle.image.specs.Check.{go}
use Rattle.image.specs.Memory.{Memory, found, entry}
use Rattle.image.proofs.Choices.{neither, past}
use Rattle.image.proofs.Fields.{fits}
use Rattle.registers.specs.Source.{bus_of, devfn_of}
use Rattle.registers.specs.declared.Registers.{Registers}
use Rattle.irte.specs.Irte.{descriptor_address}
use Rattle.dma.specs.Root.{root_reserved, root_check}
use Rattle.region.specs.Shared.{meets, meets_context_table, meets_descriptor, meets_named_at, any_named, interrupt_entries, shares_tables}

-- so many bytes from an address lie before the region or behind it
abbrev pub Beside : (start size at n : ℕ) → Type 0
Beside start size at n = (at + n ≤ start) ⊎ (start + size ≤ at)

apart : (start size other n : ℕ) → 0 < size → meets start size other n ≡ false → Beside start size other n
apart start size other n some h = by (dec_le (other + n) start) (dec_le (start + size) other)
  where
    by : Dec (other + n ≤ start) → Dec (start + size ≤ other) → Beside start size other n
    by (yes low) high = inl low
    by (no low) (yes high) = inr high
    by (no low) (no high) =
        let all : meets start size other n ≡ true =
        rw (ne_eqb size 0 (λ e. omega arith), lt-ltb start (other + n) (omega arith), lt-ltb other (start + size) (omega arith)) in
        let z : ◌≡◌ {A = Bool} true false = sym all ∙ h in
        let y : ◌≡◌ {A = ℕ} 0 1 = cc in
        absurd (omega arith)

-- a part of them
within : (start size at n more m : ℕ) → more + m ≤ n → Beside start size at n → Beside start size (at + more) m
within start size at n more m h (inl low) = inl (omega arith)
within start size at n more m h (inr high) = inr (omega arith)

and_right : (a b : Bool) → a ≡ true → (a && b) ≡ false → b ≡ false
and_right true b is h = h
and_right false b is h = let z : ◌≡◌ {A = ℕ} 0 1 = cc in absurd (omega arith)

-- none of so many entries names a byte of the region
none_named : (posted : Bool) (start size : ℕ) (m : Memory) (n at : ℕ) → any_named posted start size m n at ≡ false → (i : ℕ) → i < n
    → meets_named_at posted start size m (at + 16 * i) ≡ false
unfolding any_named
none_named posted start size m zero at h i few = absurd (omega arith)
none_named posted start size m (suc n) at h zero few =
    let here : at + 16 * 0 ≡ at = omega arith in
    rw here (neither (meets_named_at posted start size m at) (any_named posted start size m n (at + 16)) h).0
none_named posted start size m (suc n) at h (suc i) few =
    let there : at + 16 * suc i ≡ at + 16 + 16 * i = omega arith in
    rw there (none_named posted start size m n (at + 16) (neither (meets_named_at posted start size m at) (any_named posted start size m n (at + 16)) h).1 i (omega arith))

pub bus-lt : (source : ℕ) → bus_of source < 256
bus-lt source = fits source 15 8

pub devfn-lt : (source : ℕ) → devfn_of source < 256
devfn-lt source = fits source 7 0

module _ (registers : Registers) (start size : ℕ) (some : 0 < size) (m m' : Memory) (unshared : shares_tables registers start size m ≡ false)
    (kept : (words at : ℕ) → Beside start size at (8 * words) → entry words m' at ≡ entry words m at) where
  record Tests : Type 0 where
    root : meets start size registers.root_table 4096 ≡ false
    contexts : any_named false start size m 256 registers.root_table ≡ false
    table : meets start size registers.interrupt_table (16 * interrupt_entries registers) ≡ false
    descriptors : any_named true start size m (interrupt_entries registers) registers.interrupt_table ≡ false

  tests : Tests
  unfolding shares_tables
  tests =
      let h3 = neither _ (any_named true start size m (interrupt_entries registers) registers.interrupt_table) unshared in
      let h2 = neither _ (meets start size registers.interrupt_table (16 * interrupt_entries registers)) h3.0 in
      let h1 = neither (meets start size registers.root_table 4096) (any_named false start size m 256 registers.root_table) h2.0 in
      record { root = h1.0; contexts = h1.1; table = h2.1; descriptors = h3.1 }

  pub root-same : (source : ℕ)
      → entry 2 m' (registers.root_table + 16 * bus_of source) ≡ entry 2 m (registers.root_table + 16 * bus_of source)
  root-same source =
      kept 2 (registers.root_table + 16 * bus_of source)
      (within start size registers.root_table 4096 (16 * bus_of source) 16 (omega (arith, bus-lt source))
      (apart start size registers.root_table 4096 some tests.root))

  pub context-same : (source e table : ℕ) → entry 2 m (registers.root_table + 16 * bus_of source) ≡ found e → root_check registers.haw e ≡ go table
      → entry 2 m' (table + 16 * devfn_of source) ≡ entry 2 m (table + 16 * devfn_of source)
  unfolding root_check
  context-same source e table is leads =
      let named = none_named false start size m 256 registers.root_table tests.contexts (bus_of source) (bus-lt source) in
      let off : meets_context_table start size e ≡ false = rw is at named in
      let h1 = past (not (bit e 0)) 0x01 _ table leads in
      let h2 = past (root_reserved registers.haw e) 0x0A (go (in_place e 63 12)) table h1.1 in
      let led : go (in_place e 63 12) ≡ go table = h2.1 in
      let same : in_place e 63 12 ≡ table = cc in
      let free : meets start size (in_place e 63 12) 4096 ≡ false = and_right (bit e 0) _ (not-false (bit e 0) h1.0) off in
      kept 2 (table + 16 * devfn_of source)
      (within start size table 4096 (16 * devfn_of source) 16 (omega (arith, devfn-lt source))
      (apart start size table 4096 some (subst (λ (t : ℕ). meets start size t 4096 ≡ false) same free)))

  pub irte-same : (index : ℕ) → index < 2 ^ (registers.s + 1)
      → entry 2 m' (registers.interrupt_table + 16 * index) ≡ entry 2 m (registers.interrupt_table + 16 * index)
  irte-same index few =
      kept 2 (registers.interrupt_table + 16 * index)
      (within start size registers.interrupt_table (16 * interrupt_entries registers) (16 * index) 16 (omega arith)
      (apart start size registers.interrupt_table (16 * interrupt_entries registers) some tests.table))

  pub descriptor-same : (index e : ℕ) → index < 2 ^ (registers.s + 1) → entry 2 m (registers.interrupt_table + 16 * index) ≡ found e
      → bit e 0 ≡ true → bit e 15 ≡ true → entry 8 m' (descriptor_address e) ≡ entry 8 m (descriptor_address e)
  descriptor-same index e few is present posted =
      let named = none_named true start size m (interrupt_entries registers) registers.interrupt_table tests.descriptors index few in
      let off : meets_descriptor start size e ≡ false = rw is at named in
      let free : meets start size (descriptor_address e) 64 ≡ false = and_right (bit e 0 && bit e 15) _ (rw (present, posted)) off in
      kept 8 (descriptor_address e) (apart start size (descriptor_address e) 64 some free)
