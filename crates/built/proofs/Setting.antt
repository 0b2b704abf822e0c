-- What a build that was done sets up: tables before and after it, shown by the memory before and after it.
use Prim.Native.Nat.{ℕ, zero, suc, ◌+◌, ◌-◌, ◌*◌, ◌/◌, ◌%◌, ◌^◌, ◌≤◌, ◌<◌}
use mathlib.Core.Bool.{Bool, true, false, not, ◌||◌}
use mathlib.Core.Path.{◌≡◌, refl, ap, sym, ◌∙◌, subst}
use mathlib.Core.List.{List}
use mathlib.Core.Logic.{◌⊎◌, inl, inr}
use native.Mathlib.Omega.{arith}
use borrow.Author.Tests.{ltb-false, leb-false, eqb-true, eq-eqb, not-false}
use lib.Dec.{eqb, ltb, leb}
use lib.ListN.{length, take, drop}
use lib.Pow.{pow_mono}
use Rattle.image.specs.Bytes.{little_endian}
use Rattle.image.specs.Check.{go}
use Rattle.std.specs.Prelude.{if◌then◌else◌}
use Rattle.image.specs.EntryKind.{root_entry, context_entry}
use Rattle.image.specs.Memory.{Memory, Fetched, missing, found, entry, on_fetch}
use Rattle.image.specs.Rules.{answer, run}
use Rattle.image.specs.Windows.{windows_of, Spot, nowhere, here, spot_in, entry_in, of_windows}
use Rattle.image.proofs.Bytes.{AreBytes}
use Rattle.image.proofs.Choices.{both, neither}
use Rattle.image.proofs.Same.{one_word}
use Rattle.image.proofs.Stages.{run-cases}
use Rattle.registers.specs.Registers.{registers_bad}
use Rattle.registers.specs.Source.{bus_of, devfn_of}
use Rattle.registers.specs.declared.Registers.{Registers}
use Rattle.registers.proofs.Good.{Good, good}
use Rattle.dma.specs.Context.{context_check, context_of, fault_processing_disabled}
use Rattle.dma.specs.Lookup.{Lookup, context, no_context, on_lookup, context_rules, root_rules, lookup_rules}
use Rattle.dma.specs.Root.{root_check}
use Rattle.dma.specs.declared.context.Context.{Context}
use Rattle.dma.proofs.Lookups.{Finds, finds}
use Rattle.dma.proofs.Stages.{valid}
use Rattle.takes.proofs.Memories.{Shape, same_shape}
use Rattle.takes.proofs.Memories as shape
use Rattle.region.specs.Copy.{is_whole, word_shown}
use Rattle.region.specs.Region.{not_pages, pages_shown, bad_region}
use Rattle.region.specs.Shared.{shares_tables}
use Rattle.tables.specs.Tables.{Tables, tables, held_entry}
use Rattle.tables.specs.declared.Tree.{Tree}
use Rattle.builder.specs.Build.{LentBuffers}
use Rattle.builder.specs.Items.{item_at, changed, take_item, take_items}
use Rattle.builder.specs.Reasons.{item_reason}
use Rattle.leaves.specs.Claims.{Leaves}
use Rattle.leaves.specs.Leaves.{leaf_over, leaf_place, left}
use Rattle.leaves.specs.WellBuilt.{Placed, WellBuilt}
use Rattle.leaves.proofs.Items.{items-leave}
use Rattle.leaves.proofs.Marked.{marked-as-built}
use Rattle.built.specs.Claims.{Unlisted}
use Rattle.built.proofs.Apart.{Beside}
use Rattle.built.proofs.Builds.{Readied, Completed, copy_of, marked_of, end_of, after_of}
use Rattle.built.proofs.Copies.{entry-below, bytes-in, word_in, entry-out, word_out}
use Rattle.built.proofs.Inside.{copy-length, end-length}
use Rattle.built.proofs.Items.{items_keep}
use Rattle.built.proofs.Stores.{bytes_word}
use Rattle.built.proofs.Through.{word_below, word-of-page}
use Rattle.built.proofs.Walked.{Shown}

-- the memory before and after, the tables in it, and what the list did to them
pub record Setting (registers : Registers) (start size : ℕ) (items : List ℕ) (own : Context) (m m' : Memory) : Type 0 where
  pub listed : registers_bad registers ≡ false
  pub on : registers.te ≡ true
  pub tree : Tree
  pub top-is : own.top ≡ tree.start + tree.top
  pub levels-are : own.levels ≡ suc tree.below
  pub copy : List ℕ
  pub marks : List ℕ
  pub well : WellBuilt copy marks tree
  pub shown : Shown m tree.start copy
  pub fits : tree.start + 4096 * length marks ≤ 2 ^ registers.haw
  pub copy' : List ℕ
  pub marks' : List ℕ
  pub well' : WellBuilt copy' marks' tree
  pub shown' : Shown m' tree.start copy'
  pub fits' : tree.start + 4096 * length marks' ≤ 2 ^ registers.haw
  pub leaves : (address : ℕ) → address < 2 ^ (12 + 9 * (tree.below + 1))
      → leaf_over copy' tree address ≡ left items (length items / 4) 0 address (leaf_over copy tree address)
  pub places : (address : ℕ) → address < 2 ^ (12 + 9 * (tree.below + 1)) → Unlisted items address
      → leaf_place copy' tree address ≡ leaf_place copy tree address
  pub fine : (i : ℕ) → i < length items / 4 → item_reason registers (tree.below + 1) (item_at items i) ≡ 0
  pub aligned : start % 4096 ≡ 0
  pub some : 0 < size
  pub unshared : shares_tables registers start size m ≡ false
  pub kept : (words at : ℕ) → Beside start size at (8 * words) → entry words m' at ≡ entry words m at
  pub gone : (at : ℕ) → entry 1 m at ≡ missing → entry 1 m' at ≡ missing

-- a context that a lookup finds has at least two levels
deep : (registers : Registers) (source : ℕ) (m : Memory) {own : Context} → run (lookup_rules registers source) m ≡ context own → 2 ≤ own.levels
unfolding root_rules context_rules run
deep registers source m {own} h = subst Deep h all
  where
    Deep : Lookup → Type 0
    Deep l = on_lookup l (λ reason fpd. Unit {0}) (λ c. 2 ≤ c.levels)

    says : (e : ℕ) (c : Context) → context_check registers e ≡ go c → 2 ≤ c.levels
    says e c told =
        let passed = (valid registers e told).1 in
        let is : c ≡ context_of e = cc in
        rw is (omega arith)

    all : Deep (run (lookup_rules registers source) m)
    all =
        run-cases root_entry (registers.root_table + 16 * bus_of source) (no_context 0x08 false) (root_check registers.haw)
        (λ e reason. no_context reason false) (context_rules registers no_context (λ c. answer (context c)) source) m Deep tt (λ e reason f told. tt)
        (λ e table f told.
        run-cases context_entry (table + 16 * devfn_of source) (no_context 0x09 false) (context_check registers)
        (λ e reason. no_context reason (fault_processing_disabled e)) (λ c. answer (context c)) m Deep tt (λ e reason f told. tt) (λ e c f told. says e c told))

-- every page of a region that stands whole in windows
whole-page : (windows : List ℕ) (n at : ℕ) → pages_shown windows n at ≡ true → (i : ℕ) → i < n
    → (place : ℕ) × (left : ℕ) × (spot_in (windows_of windows) 4096 (at + 4096 * i) ≡ here place left)
unfolding pages_shown
whole-page windows zero at h i few = absurd (omega arith)
whole-page windows (suc n) at h zero few = by (spot_in (windows_of windows) 4096 at) refl (both (is_whole (spot_in (windows_of windows) 4096 at)) (pages_shown windows n (at + 4096)) h).0
  where
    first : at + 4096 * 0 ≡ at
    first = omega arith

    by : (s : Spot) → spot_in (windows_of windows) 4096 at ≡ s → is_whole s ≡ true
        → (place : ℕ) × (left : ℕ) × (spot_in (windows_of windows) 4096 (at + 4096 * 0) ≡ here place left)
    by nowhere is h = let z : ◌≡◌ {A = ℕ} 0 1 = cc in absurd (omega arith)
    by (here place left) is h = (place, left, ap (spot_in (windows_of windows) 4096) first ∙ is)
whole-page windows (suc n) at h (suc i) few =
    let there : at + 4096 * suc i ≡ at + 4096 + 4096 * i = omega arith in
    rw there (whole-page windows n (at + 4096) (both (is_whole (spot_in (windows_of windows) 4096 at)) (pages_shown windows n (at + 4096)) h).1 i (omega arith))

-- a list that was taken has no item with a reason against it
fine-items : (registers : Registers) (tree : Tree) (numbers : List ℕ) (n i : ℕ) (t : Tables) → (take_items registers tree numbers n i t).0.reason ≡ 0
    → (k : ℕ) → k < n → item_reason registers (tree.below + 1) (item_at numbers (i + k)) ≡ 0
unfolding take_items take_item
fine-items registers tree numbers zero i t h k few = absurd (omega arith)
fine-items registers tree numbers (suc n) i t h k few =
    by (eqb one.0 0) refl h (λ next j small. fine-items registers tree numbers n (i + 1) one.1 next j small) k few
  where
    reason : ℕ
    reason = item_reason registers (tree.below + 1) (item_at numbers i)

    one : ℕ × Tables
    one = take_item registers tree (item_at numbers i) t

    taken : eqb one.0 0 ≡ true → reason ≡ 0
    taken h = asks (eqb reason 0) refl h
      where
        asks : (t' : Bool) → eqb reason 0 ≡ t'
            → eqb (if t' then changed registers tree (item_at numbers i) t else (reason, t)).0 0 ≡ true → reason ≡ 0
        asks true e h = eqb-true reason 0 e
        asks false e h = eqb-true reason 0 h

    by : (t' : Bool) → eqb one.0 0 ≡ t'
        → (if t' then take_items registers tree numbers n (i + 1) one.1 else (record { index = i; reason = one.0 }, one.1)).0.reason ≡ 0
        → ((take_items registers tree numbers n (i + 1) one.1).0.reason ≡ 0 → (j : ℕ) → j < n
        → item_reason registers (tree.below + 1) (item_at numbers (i + 1 + j)) ≡ 0)
        → (k : ℕ) → k < suc n → item_reason registers (tree.below + 1) (item_at numbers (i + k)) ≡ 0
    by true e h ih zero few = let here : i + 0 ≡ i = omega arith in rw here (taken e)
    by true e h ih (suc k) few = let there : i + suc k ≡ i + 1 + k = omega arith in rw there (ih h k (omega arith))
    by false e h ih k few =
        let z : ◌≡◌ {A = Bool} true false = sym (eq-eqb one.0 0 h) ∙ e in
        let y : ◌≡◌ {A = ℕ} 0 1 = cc in
        absurd (omega arith)

-- a region that isn't refused
pub record Region (registers : Registers) (windows run : List ℕ) (start size : ℕ) : Type 0 where
  pub aligned : start % 4096 ≡ 0
  pub pages : size % 4096 ≡ 0
  pub ends : start + size ≤ 2 ^ registers.haw
  pub whole : pages_shown windows (size / 4096) start ≡ true
  pub unshared : shares_tables registers start size (of_windows windows run) ≡ false

region-of : (registers : Registers) (windows run : List ℕ) (start size : ℕ) → bad_region registers windows run start size ≡ false
    → Region registers windows run start size
unfolding bad_region
region-of registers windows run start size h =
    let h3 = neither (not_pages start size || ltb (2 ^ registers.haw) (start + size) || not (pages_shown windows (size / 4096) start)) (shares_tables registers start size (of_windows windows run)) h in
    let h2 = neither (not_pages start size || ltb (2 ^ registers.haw) (start + size)) (not (pages_shown windows (size / 4096) start)) h3.0 in
    let h1 = neither (not_pages start size) (ltb (2 ^ registers.haw) (start + size)) h2.0 in
    let h0 = neither (not (eqb (start % 4096) 0)) (not (eqb (size % 4096) 0)) h1.0 in
    record {
      aligned = eqb-true (start % 4096) 0 (not-false _ h0.0);
      pages = eqb-true (size % 4096) 0 (not-false _ h0.1);
      ends = ltb-false (2 ^ registers.haw) (start + size) h1.1;
      whole = not-false (pages_shown windows (size / 4096) start) h2.1;
      unshared = h3.1;
    }

missing-too : {f g : Fetched} → Shape f g → f ≡ missing → g ≡ missing
missing-too shape.neither h = refl
missing-too (shape.both {e = e}) h = let z : ◌≡◌ {A = Fetched} (found e) missing = h in let y : ◌≡◌ {A = ℕ} 0 1 = cc in absurd (omega arith)

-- where tables are ready: the region, and the tree in it
module _ (registers : Registers) (windows memory : List ℕ) (start size copy marks source : ℕ) (tree : Tree)
    (r : Readied registers windows memory start size copy marks source tree) where
  pub ready-region : Region registers windows memory start size
  ready-region = region-of registers windows memory start size r.region

  pub ready-listed-good : Good registers
  ready-listed-good = good registers r.listed

  pub ready-first : tree.start ≡ start
  ready-first = ap (λ (t : Tree). t.start) r.is

  pub ready-inside : (start ≤ r.own.top) × (r.own.top - start < size)
  ready-inside =
      let t = neither (ltb r.own.top start) (leb size (r.own.top - start)) r.inside in
      (ltb-false r.own.top start t.0, leb-false size (r.own.top - start) t.1)

  pub ready-top-is : r.own.top ≡ tree.start + tree.top
  ready-top-is = let t : tree.top ≡ r.own.top - start = ap (λ (x : Tree). x.top) r.is in omega (arith, ready-first, ready-inside.0)

  pub ready-levels-are : r.own.levels ≡ suc tree.below
  ready-levels-are =
      let t : tree.below ≡ r.own.levels - 1 = ap (λ (x : Tree). x.below) r.is in
      omega (arith, deep registers source (of_windows windows memory) r.own-context)

  pub ready-placed : Placed tree (marks)
  ready-placed =
      let usable = subst Finds r.own-context (finds registers source (of_windows windows memory)) in
      record {
        start-aligned = rw ready-first ready-region.aligned;
        top-aligned = omega (arith, ready-top-is, ready-first, ready-region.aligned, usable.2);
        fits =
            omega (arith, ready-first, ready-region.ends, ready-region.pages, r.marks-size, pow_mono {i = registers.haw} {j = 52} ready-listed-good.haw.most);
        deep = omega (arith, ready-levels-are, deep registers source (of_windows windows memory) r.own-context);
      }

module _ (registers : Registers) (source start size : ℕ) (windows items : List ℕ) (l : LentBuffers)
    (bytes : AreBytes l.memory) (copied : AreBytes l.copy) (tree : Tree) (c : Completed registers source start size windows items l tree) where
  abbrev ready : Readied registers windows l.memory start size (length l.copy) (length l.marks) source tree
  ready = c.ready

  abbrev m : Memory
  m = of_windows windows l.memory

  abbrev begun : List ℕ
  begun = copy_of registers source start size windows items l tree

  abbrev ended : List ℕ
  ended = (end_of registers source start size windows items l tree).1.bytes

  abbrev after : List ℕ
  after = after_of registers source start size windows items l tree

  abbrev own : Context
  own = c.ready.own

  region : Region registers windows l.memory start size
  region = ready-region registers windows l.memory start size (length l.copy) (length l.marks) source tree c.ready

  listed-good : Good registers
  listed-good = ready-listed-good registers windows l.memory start size (length l.copy) (length l.marks) source tree c.ready

  first : tree.start ≡ start
  first = ready-first registers windows l.memory start size (length l.copy) (length l.marks) source tree c.ready

  inside : (start ≤ own.top) × (own.top - start < size)
  inside = ready-inside registers windows l.memory start size (length l.copy) (length l.marks) source tree c.ready

  top-is : own.top ≡ tree.start + tree.top
  top-is = ready-top-is registers windows l.memory start size (length l.copy) (length l.marks) source tree c.ready

  levels-are : own.levels ≡ suc tree.below
  levels-are = ready-levels-are registers windows l.memory start size (length l.copy) (length l.marks) source tree c.ready

  pub placed : Placed tree (length l.marks)
  placed = ready-placed registers windows l.memory start size (length l.copy) (length l.marks) source tree c.ready

  begun-length : length begun ≡ 4096 * length l.marks
  begun-length =
      omega (arith, copy-length registers source start size windows items l tree c, region.pages, c.ready.marks-size)

  well : WellBuilt begun (marked_of registers source start size windows items l tree).1 tree
  well = marked-as-built begun tree (length l.marks) placed begun-length c.marked

  pub leaves : Leaves tree items (length items / 4) 0 (tables begun (marked_of registers source start size windows items l tree).1)
      (end_of registers source start size windows items l tree).1
  leaves =
      items-leave registers tree items (length items / 4) 0 (tables begun (marked_of registers source start size windows items l tree).1)
      listed-good.haw.most well c.taken

  -- a word of the region stands whole in a window
  word-whole : (n : ℕ) → 8 * n < size → (place : ℕ) × (left : ℕ) × (spot_in (windows_of windows) 8 (start + 8 * n) ≡ here place left)
  word-whole n few =
      let page = whole-page windows (size / 4096) start region.whole (8 * n / 4096) (omega (arith, region.pages)) in
      let there : start + 4096 * (8 * n / 4096) + 8 * n % 4096 ≡ start + 8 * n = omega arith in
      let word = word-of-page windows (length l.memory) c.ready.good (start + 4096 * (8 * n / 4096)) (8 * n % 4096) page.2 (omega arith) in
      (page.0 + 8 * n % 4096, page.1 - 8 * n % 4096, subst (λ (a : ℕ). spot_in (windows_of windows) 8 a ≡ here (page.0 + 8 * n % 4096) (page.1 - 8 * n % 4096)) there word)

  shown : Shown m tree.start begun
  unfolding word_shown of_windows entry_in
  shown n few =
      let small : 8 * n < size = omega (arith, copy-length registers source start size windows items l tree c) in
      let spot = word-whole n small in
      let w : ℕ = little_endian (take 8 (drop spot.0 l.memory)) in
      let there : m (start + 8 * n) ≡ found w = rw spot.2 in
      let all : 0 + 8 * n ≡ 8 * n = omega arith in
      let told : word_shown m (tree.start + (0 + 8 * n)) ≡ w =
      ap (λ (k : ℕ). word_shown m (tree.start + k)) all ∙ ap (λ (k : ℕ). word_shown m (k + 8 * n)) first
      ∙ ap (λ (f : Fetched). on_fetch f 0 (λ e. e)) (one_word m (start + 8 * n) ∙ there) in
      let room : 0 + 8 * (length l.copy / 8) ≤ length l.copy = omega arith in
      let among : n < length l.copy / 8 = omega (arith, c.ready.copy-size, region.pages) in
      let is = word_in m tree.start (length l.copy / 8) 0 l.copy room n among (rw told (word_below windows l.memory bytes (start + 8 * n) there)) in
      ap (λ (k : ℕ). m (k + 8 * n)) first ∙ there ∙ ap found (sym (sym (ap (held_entry begun) all) ∙ is ∙ told))

  pub ended-bytes : AreBytes ended
  ended-bytes =
      items_keep AreBytes (λ run at word are. bytes_word run at word are) registers tree items (length items / 4) 0
      (tables begun (marked_of registers source start size windows items l tree).1)
      (bytes-in m tree.start (length l.copy / 8) 0 l.copy copied)

  pub ended-length : length ended ≡ size
  ended-length = end-length registers source start size windows items l tree c

  pub shown' : Shown (of_windows windows after) tree.start ended
  shown' n few =
      let small : 8 * n < size = omega (arith, ended-length) in
      let spot = word-whole n small in
      let all : 0 + 8 * n ≡ 8 * n = omega arith in
      let there : spot_in (windows_of windows) 8 (tree.start + (0 + 8 * n)) ≡ here spot.0 spot.1 =
      ap (λ (k : ℕ). spot_in (windows_of windows) 8 (tree.start + k)) all ∙ ap (λ (k : ℕ). spot_in (windows_of windows) 8 (k + 8 * n)) first ∙ spot.2 in
      let is = word_out windows ended tree.start (length ended / 8) 0 l.memory c.ready.good n (omega (arith, ended-length, region.pages)) there
      (entry-below ended ended-bytes (0 + 8 * n)) in
      subst (λ (k : ℕ). of_windows windows after (tree.start + k) ≡ found (held_entry ended k)) all is

  entry-beside : (words at : ℕ) → Beside start size at (8 * words) → entry words (of_windows windows after) at ≡ entry words m at
  entry-beside words at beside = entry-out windows ended tree.start (length ended / 8) 0 l.memory c.ready.good words at (side beside)
    where
      side : Beside start size at (8 * words) → (at + 8 * words ≤ tree.start + 0) ⊎ (tree.start + 0 + 8 * (length ended / 8) ≤ at)
      side (inl low) = inl (omega (arith, first))
      side (inr high) = inr (omega (arith, first, ended-length))

  pub setting : Setting registers start size items own m (of_windows windows after)
  setting =
      record {
        listed = c.ready.listed;
        on = c.ready.on;
        tree = tree;
        top-is = top-is;
        levels-are = levels-are;
        copy = begun;
        marks = (marked_of registers source start size windows items l tree).1;
        well = well;
        shown = shown;
        fits = omega (arith, first, region.ends, well.sized, copy-length registers source start size windows items l tree c);
        copy' = ended;
        marks' = (end_of registers source start size windows items l tree).1.marks;
        well' = leaves.well-built;
        shown' = shown';
        fits' = omega (arith, first, region.ends, leaves.well-built.sized, ended-length);
        leaves = leaves.leaves;
        places = λ address reached off. leaves.kept address reached (λ j from to. off j (omega arith));
        fine =
            λ i few.
            let all : 0 + i ≡ i = omega arith in
            rw all at (fine-items registers tree items (length items / 4) 0 (tables begun (marked_of registers source start size windows items l tree).1) c.taken i few);
        aligned = region.aligned;
        some = omega (arith, inside.1);
        unshared = region.unshared;
        kept = entry-beside;
        gone = λ at. missing-too (same_shape windows l.memory after 1 at);
      }
