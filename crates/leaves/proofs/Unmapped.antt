-- A page that was unmapped: the tables are as built here, and no page is mapped at its addresses.
use Prim.Native.Nat.{ℕ, zero, suc, ◌+◌, ◌-◌, ◌*◌, ◌/◌, ◌%◌, ◌^◌, ◌<◌, ◌≤◌}
use mathlib.Core.Bool.{Bool, true, false, ◌&&◌}
use mathlib.Core.Path.{◌≡◌, refl, ap, sym, ◌∙◌, subst}
use mathlib.Core.List.{List}
use native.Mathlib.Omega.{arith}
use borrow.Author.Tests.{eqb-true}
use lib.Dec.{eqb}
use lib.ListN.{get_or}
use Rattle.std.specs.Prelude.{if◌then◌else◌}
use Rattle.image.specs.Memory.{with_word}
use Rattle.image.proofs.Choices.{both}
use Rattle.tables.specs.Tables.{Tables, tables, held_entry, present, maps_page, empty_table}
use Rattle.tables.specs.Unmapped.{without_table, freed_tables, leaf_here, unmapped}
use Rattle.tables.specs.Way.{stop_in, way}
use Rattle.tables.specs.declared.Tree.{Tree}
use Rattle.tables.specs.declared.way.Stop.{Stop}
use Rattle.leaves.specs.Leaves.{none}
use Rattle.leaves.specs.WellBuilt.{leads_on, WellBuilt, NoneEmpty}
use Rattle.leaves.proofs.Addresses.{number, placed}
use Rattle.leaves.proofs.Entries.{each-absent}
use Rattle.leaves.proofs.Filled.{FilledBut, all_but, and-it, filled-page, stored-but, freed-but}
use Rattle.leaves.proofs.Mapped.{Changed, page-is}
use Rattle.leaves.proofs.Passes.{Passes, at_top_lem, onward, entry_on, end_over, leaf-same, ends_last, way-here, passing, not-over, passed-mark, Arrived, arrives}
use Rattle.leaves.proofs.Steps.{absent-ends, zero-absent, in-region, f-inside, stored-built, stored-still, stored_here, stored-elsewhere, freed-built, freed-end, freed-passes}

-- the same pages, in tables as built here
pub record Kept (tree : Tree) (before after : Tables) : Type 0 where
  pub built : WellBuilt after.bytes after.marks tree
  pub same : (q : ℕ) → end_over after.bytes tree q ≡ end_over before.bytes tree q

-- a way to a level that it reaches
stop-there : (bytes : List ℕ) (tree : Tree) (q n page : ℕ) → Passes bytes tree q n page → way bytes tree q n ≡ stop_in bytes q n (4096 * page)
stop-there bytes tree q n page p =
    passing bytes tree q n (omega arith) p ∙ way-here bytes tree.start q n n page (ends_last n n (entry_on bytes q page n) refl)

maps-ends : (n e : ℕ) → maps_page n e ≡ true → leads_on n e ≡ false
maps-ends n e h = rw h (go (present e))
  where
    go : (p : Bool) → (p && false) ≡ false
    go true = refl
    go false = refl

module _ (tree : Tree) (place : ℕ) where
  -- a table was released: the way comes to the one over it
  record Released (below page : ℕ) (before after : Tables) : Type 0 where
    pub kept : Kept tree before after
    pub upper : ℕ
    pub filled : FilledBut before.bytes before.marks tree page → FilledBut after.bytes after.marks tree upper
    pub passes : Passes after.bytes tree place (suc below) upper

  release : (below page : ℕ) (t : Tables) → WellBuilt t.bytes t.marks tree → below < tree.below → Passes t.bytes tree place below page
      → empty_table t.bytes (way t.bytes tree place below).table ≡ true
      → Released below page t (without_table (way t.bytes tree place below).table (way t.bytes tree place (suc below)).at t)
  release below page t w less (at_top_lem level top) empty = absurd (omega arith)
  release below page t w less (onward upper p leads down) empty =
      let x = number place upper (suc below) in
      let table : (way t.bytes tree place below).table ≡ 4096 * page =
      ap (λ (s : Stop). s.table) (stop-there t.bytes tree place below page (onward upper p leads down)) in
      let at : (way t.bytes tree place (suc below)).at ≡ 8 * x =
      ap (λ (s : Stop). s.at) (stop-there t.bytes tree place (suc below) upper p) ∙ placed place upper (suc below) in
      let mark : get_or t.marks (x / 512) 0 ≡ suc (suc below) =
      rw (page-is place upper (suc below)) (passed-mark t.bytes t.marks tree w place p) in
      let all : empty_table t.bytes (4096 * page) ≡ true = rw table at empty in
      let absent : (y : ℕ) → y / 512 ≡ page → present (held_entry t.bytes (8 * y)) ≡ false =
      λ y in-it. (let spot : 8 * y ≡ 4096 * page + 8 * (y % 512) = omega arith in rw spot (each-absent 512 t.bytes (4096 * page) (y % 512) all (omega arith))) in
      let index_back : 4096 * page / 4096 ≡ page = omega arith in
      rw (table, at, index_back)
      (record {
        kept = record {
          built = freed-built t.bytes t.marks tree w x (suc below) page mark leads down less absent;
          same = freed-end t.bytes t.marks tree w x (suc below) page mark leads down less absent;
        };
        upper = upper;
        filled = λ full. rw (page-is place upper (suc below)) at (freed-but t.bytes t.marks tree x page (f-inside t.bytes t.marks tree w x (suc below) page mark leads down less absent) full);
        passes = freed-passes t.bytes t.marks tree w x (suc below) page mark leads down less absent place p;
      })

  -- the way's first table is the top one
  top-only : (bytes : List ℕ) {n page : ℕ} → Passes bytes tree place n page → n ≡ tree.below → 4096 * page ≡ tree.top
  top-only bytes (at_top_lem level top) is = top
  top-only bytes (onward upper p leads down) is = let h = not-over bytes tree place p in absurd (omega arith)

  released-kept : (k below page : ℕ) (t : Tables) → WellBuilt t.bytes t.marks tree → below + k ≡ tree.below
      → Passes t.bytes tree place below page
      → Kept tree t (freed_tables tree place k below t)
      × (FilledBut t.bytes t.marks tree page → NoneEmpty (freed_tables tree place k below t).bytes (freed_tables tree place k below t).marks tree)
  unfolding freed_tables
  released-kept zero below page t w level passes = (
    record { built = w; same = λ q. refl },
    λ full. and-it t.bytes t.marks tree page (λ other. absurd (other (top-only t.bytes passes (omega arith)))) full,
  )
  released-kept (suc k) below page t w level passes =
      go (empty_table t.bytes (way t.bytes tree place below).table) refl (λ upper. released-kept k (suc below) upper)
    where
      u : Tables
      u = without_table (way t.bytes tree place below).table (way t.bytes tree place (suc below)).at t

      go : (b : Bool) → empty_table t.bytes (way t.bytes tree place below).table ≡ b
          → ((upper : ℕ) (v : Tables) → WellBuilt v.bytes v.marks tree → suc below + k ≡ tree.below
          → Passes v.bytes tree place (suc below) upper
          → Kept tree v (freed_tables tree place k (suc below) v)
          × (FilledBut v.bytes v.marks tree upper → NoneEmpty (freed_tables tree place k (suc below) v).bytes (freed_tables tree place k (suc below) v).marks tree))
          → Kept tree t (if b then freed_tables tree place k (suc below) u else t)
          × (FilledBut t.bytes t.marks tree page
          → NoneEmpty (if b then freed_tables tree place k (suc below) u else t).bytes (if b then freed_tables tree place k (suc below) u else t).marks tree)
      go false e on =
          let table : (way t.bytes tree place below).table ≡ 4096 * page = ap (λ (s : Stop). s.table) (stop-there t.bytes tree place below page passes) in
          let some : empty_table t.bytes (4096 * page) ≡ false = rw table at e in (
            record { built = w; same = λ q. refl },
            λ full. and-it t.bytes t.marks tree page (λ other. filled-page t.bytes page some) full,
          )
      go true e on =
          let r = release below page t w (omega arith) passes e in
          let later = on r.upper u r.kept.built (omega arith) r.passes in (
            record { built = later.0.built; same = λ q. later.0.same q ∙ r.kept.same q },
            λ full. later.1 (r.filled full),
          )

  module _ (last : ℕ) (reached : place < 2 ^ (12 + 9 * (tree.below + 1))) (t : Tables) (w : WellBuilt t.bytes t.marks tree) (less : last ≤ tree.below) where
    -- its entry is at a place of the last table on the way
    cut : (page : ℕ) → Passes t.bytes tree place last page → maps_page last (entry_on t.bytes place page last) ≡ true
        → Changed tree place last none t
        (freed_tables tree place (tree.below - last) last (tables (with_word t.bytes (8 * number place page last) 0) t.marks))
        (NoneEmpty t.bytes t.marks tree)
    cut page p maps =
        let x = number place page last in
        let mark : get_or t.marks (x / 512) 0 ≡ suc last = rw (page-is place page last) (passed-mark t.bytes t.marks tree w place p) in
        let was = maps-ends last (held_entry t.bytes (8 * x)) maps in
        let is = absent-ends last 0 zero-absent in
        let small : 0 < 2 ^ 64 = omega arith in
        let u : Tables = tables (with_word t.bytes (8 * x) 0) t.marks in
        let kept = released-kept (tree.below - last) last page u (stored-built t.bytes t.marks tree w x last mark 0 small was is) (omega arith)
        (stored-still t.bytes t.marks tree w x last mark 0 small was is place p) in
        record {
          built = kept.0.built;
          here = λ q h.
              leaf-same u.bytes (freed_tables tree place (tree.below - last) last u).bytes tree q (kept.0.same q)
              ∙ stored_here t.bytes t.marks tree w x last mark 0 small was is place page p refl q h ∙ rw zero-absent;
          elsewhere = λ q hq h. kept.0.same q ∙ stored-elsewhere t.bytes t.marks tree w x last mark 0 small was is place page p refl reached q hq h;
          filled = λ full. kept.1 (stored-but t.bytes t.marks tree x 0 page (in-region t.bytes t.marks tree w x last mark) small (page-is place page last) (all_but t.bytes t.marks tree page full));
        }

    pub unmapped-changed : (unmapped tree place last t).0 ≡ 0
        → Changed tree place last none t (unmapped tree place last t).1 (NoneEmpty t.bytes t.marks tree)
    unfolding unmapped
    unmapped-changed taken =
        go (arrives t.bytes t.marks tree w place last less) (leaf_here last (way t.bytes tree place last)) refl taken
      where
        stop : Stop
        stop = way t.bytes tree place last

        go : Arrived t.bytes t.marks tree w place last stop → (b : Bool) → leaf_here last stop ≡ b
            → (if◌then◌else◌ {A = ℕ × Tables} b (0, freed_tables tree place (tree.below - last) last (tables (with_word t.bytes stop.at 0) t.marks)) (8, t)).0 ≡ 0
            → Changed tree place last none t
            (if◌then◌else◌ {A = ℕ × Tables} b (0, freed_tables tree place (tree.below - last) last (tables (with_word t.bytes stop.at 0) t.marks)) (8, t)).1
            (NoneEmpty t.bytes t.marks tree)
        go a false e taken = absurd (omega arith)
        go a true e taken =
            let b = both (eqb stop.below last && present stop.entry) (maps_page last stop.entry) e in
            let level = eqb-true stop.below last (both (eqb stop.below last) (present stop.entry) b.0).0 in
            let there : stop ≡ stop_in t.bytes place last (4096 * a.page) = a.is ∙ ap (λ (n : ℕ). stop_in t.bytes place n (4096 * a.page)) level in
            let at : 8 * number place a.page last ≡ stop.at = sym (placed place a.page last) ∙ sym (ap (λ (s : Stop). s.at) there) in
            let entry : entry_on t.bytes place a.page last ≡ stop.entry =
            ap (held_entry t.bytes) (sym (placed place a.page last)) ∙ sym (ap (λ (s : Stop). s.entry) there) in
            subst (λ (at : ℕ). Changed tree place last none t
            (freed_tables tree place (tree.below - last) last (tables (with_word t.bytes at 0) t.marks))
            (NoneEmpty t.bytes t.marks tree)) at
            (cut a.page (subst (λ (n : ℕ). Passes t.bytes tree place n a.page) level a.passes) (rw entry b.1))
