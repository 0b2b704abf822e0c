-- A build by its outcomes: refused, with the memory as it came, or done.
use Prim.Native.Nat.{ℕ, ◌/◌}
use mathlib.Core.Bool.{Bool, true, false, not, ◌||◌}
use mathlib.Core.Path.{◌≡◌, refl}
use mathlib.Core.List.{List}
use native.Mathlib.Omega.{arith}
use borrow.Author.Tests.{eqb-true, not-false}
use lib.Dec.{eqb}
use lib.ListN.{length}
use Rattle.std.specs.Prelude.{if◌then◌else◌}
use Rattle.image.specs.Rules.{run}
use Rattle.image.specs.Windows.{of_windows, bad_windows}
use Rattle.image.proofs.Choices.{both, neither}
use Rattle.registers.specs.Registers.{registers_bad}
use Rattle.registers.specs.declared.Registers.{Registers}
use Rattle.dma.specs.Lookup.{Lookup, context, no_context, on_lookup, lookup_rules}
use Rattle.dma.specs.declared.context.Context.{Context}
use Rattle.marking.specs.Marking.{Marked, mark_all}
use Rattle.region.specs.Copy.{copied_in, copied_out}
use Rattle.region.specs.Region.{bad_region}
use Rattle.tables.specs.Tables.{Tables, tables}
use Rattle.tables.specs.declared.Tree.{Tree}
use Rattle.builder.specs.Build.{Built, all_taken, refused, not_ready, at_item, LentBuffers, lent, after_items, when_ready, built}
use Rattle.builder.specs.Items.{take_items}
use Rattle.builder.specs.Ready.{Readiness, refusal, not_yet, ready, sized, top_outside, tree_of, in_context, readiness}
use Rattle.builder.specs.Items.{Taken}

-- what is so where tables are ready
pub record Readied (registers : Registers) (windows memory : List ℕ) (start size copy marks source : ℕ) (tree : Tree) : Type 0 where
  pub good : bad_windows windows (length memory) ≡ false
  pub listed : registers_bad registers ≡ false
  pub on : registers.te ≡ true
  pub own : Context
  pub own-context : run (lookup_rules registers source) (of_windows windows memory) ≡ context own
  pub translates : eqb own.translation_type 2 ≡ false
  pub region : bad_region registers windows memory start size ≡ false
  pub copy-size : copy ≡ size
  pub marks-size : marks ≡ size / 4096
  pub inside : top_outside start size own.top ≡ false
  pub is : tree ≡ tree_of start own

-- readiness is past each test before it
past-refusal : (t : Bool) (n : ℕ) (rest : Readiness) {tree : Tree} → (if t then refusal n else rest) ≡ ready tree → (t ≡ false) × (rest ≡ ready tree)
past-refusal true n rest h = let z : ◌≡◌ {A = ℕ} 0 1 = cc in absurd (omega arith)
past-refusal false n rest h = (refl, h)

past-reason : (t : Bool) (n : ℕ) (rest : Readiness) {tree : Tree} → (if t then not_yet n else rest) ≡ ready tree → (t ≡ false) × (rest ≡ ready tree)
past-reason true n rest h = let z : ◌≡◌ {A = ℕ} 0 1 = cc in absurd (omega arith)
past-reason false n rest h = (refl, h)

module _ (registers : Registers) (windows memory : List ℕ) (start size copy marks source : ℕ) where
  abbrev lookup : Lookup
  lookup = run (lookup_rules registers source) (of_windows windows memory)

  abbrev in_own : Context → Readiness
  in_own = in_context registers windows memory start size copy marks

  pub readied : {tree : Tree} → readiness registers windows memory start size copy marks source ≡ ready tree
      → Readied registers windows memory start size copy marks source tree
  unfolding readiness in_context
  readied {tree} h =
      let h1 = past-refusal (bad_windows windows (length memory) || registers_bad registers) 1 _ h in
      let fine = neither (bad_windows windows (length memory)) (registers_bad registers) h1.0 in
      let h2 = past-reason (not registers.te) 1 (on_lookup lookup (λ reason fpd. not_yet 2) in_own) h1.1 in
      by lookup refl fine.0 fine.1 (not-false registers.te h2.0) h2.1
    where
      by : (k : Lookup) → lookup ≡ k → bad_windows windows (length memory) ≡ false → registers_bad registers ≡ false → registers.te ≡ true
          → on_lookup k (λ reason fpd. not_yet 2) in_own ≡ ready tree → Readied registers windows memory start size copy marks source tree
      by (no_context reason fpd) found good fine on h = let z : ◌≡◌ {A = ℕ} 0 1 = cc in absurd (omega arith)
      by (context c) found good fine on h =
          let h1 = past-reason (eqb c.translation_type 2) 2 _ h in
          let h2 = past-reason (bad_region registers windows memory start size) 3 _ h1.1 in
          let h3 = past-reason (not (sized size copy marks)) 5 _ h2.1 in
          let h4 = past-reason (top_outside start size c.top) 4 (ready (tree_of start c)) h3.1 in
          let sizes = both (eqb copy size) (eqb marks (size / 4096)) (not-false (sized size copy marks) h3.0) in
          let last : ready (tree_of start c) ≡ ready tree = h4.1 in
          record {
            good = good;
            listed = fine;
            on = on;
            own = c;
            own-context = found;
            translates = h1.0;
            region = h2.0;
            copy-size = eqb-true copy size sizes.0;
            marks-size = eqb-true marks (size / 4096) sizes.1;
            inside = h4.0;
            is = cc;
          }

module _ (registers : Registers) (source start size : ℕ) (windows items : List ℕ) (l : LentBuffers) where
  -- the region's copy, its marks, and the items taken on them
  abbrev pub copy_of : Tree → List ℕ
  copy_of tree = copied_in (of_windows windows l.memory) tree.start (length l.copy / 8) 0 l.copy

  abbrev pub marked_of : Tree → Marked
  marked_of tree = mark_all (copy_of tree) tree (length l.marks)

  abbrev pub end_of : Tree → Taken × Tables
  end_of tree = take_items registers tree items (length items / 4) 0 (tables (copy_of tree) (marked_of tree).1)

  abbrev pub after_of : Tree → List ℕ
  after_of tree = copied_out windows (end_of tree).1.bytes tree.start (length (end_of tree).1.bytes / 8) 0 l.memory

  -- what is so where a build was done
  pub record Completed (tree : Tree) : Type 0 where
    pub ready : Readied registers windows l.memory start size (length l.copy) (length l.marks) source tree
    pub marked : (marked_of tree).0 ≡ true
    pub taken : (end_of tree).0.reason ≡ 0

  pub build-cases : (P : Built × LentBuffers → Type 0) → ((x : Built) (copy marks : List ℕ) → (x ≡ all_taken → ⊥) → P (x, lent l.memory copy marks))
      → ((tree : Tree) (copy marks : List ℕ) → Completed tree → P (all_taken, lent (after_of tree) copy marks))
      → P (built registers source start size windows items l)
  unfolding built
  build-cases P refusals completed =
      by (readiness registers windows l.memory start size (length l.copy) (length l.marks) source) refl
    where
      not-refused : (n : ℕ) → refused n ≡ all_taken → ⊥
      not-refused n h = let z : ◌≡◌ {A = ℕ} 0 1 = cc in omega arith

      not-ready : (n : ℕ) → not_ready n ≡ all_taken → ⊥
      not-ready n h = let z : ◌≡◌ {A = ℕ} 0 1 = cc in omega arith

      not-item : (i n : ℕ) → at_item i n ≡ all_taken → ⊥
      not-item i n h = let z : ◌≡◌ {A = ℕ} 0 1 = cc in omega arith

      by : (r : Readiness) → readiness registers windows l.memory start size (length l.copy) (length l.marks) source ≡ r
          → P (when_ready registers windows items l.memory l.copy l.marks r)
      by (refusal n) is = refusals (refused n) l.copy l.marks (not-refused n)
      by (not_yet n) is = refusals (not_ready n) l.copy l.marks (not-ready n)
      by (ready tree) is = on-marks (marked_of tree).0 refl
        where
          on-items : ((marked_of tree).0 ≡ true) → (t : Bool) → eqb (end_of tree).0.reason 0 ≡ t
              → P (if t then (all_taken, lent (after_of tree) (end_of tree).1.bytes (end_of tree).1.marks)
              else (at_item (end_of tree).0.index (end_of tree).0.reason, lent l.memory (end_of tree).1.bytes (end_of tree).1.marks))
          on-items marked true e =
              completed tree (end_of tree).1.bytes (end_of tree).1.marks
              (record {
                ready = readied registers windows l.memory start size (length l.copy) (length l.marks) source is;
                marked = marked;
                taken = eqb-true (end_of tree).0.reason 0 e;
              })
          on-items marked false e = refusals _ (end_of tree).1.bytes (end_of tree).1.marks (not-item _ _)

          on-marks : (t : Bool) → (marked_of tree).0 ≡ t
              → P (if t then after_items registers windows items l.memory tree (end_of tree)
              else (not_ready 4, lent l.memory (copy_of tree) (marked_of tree).1))
          on-marks true e = on-items e (eqb (end_of tree).0.reason 0) refl
          on-marks false e = refusals (not_ready 4) (copy_of tree) (marked_of tree).1 (not-ready 4)
