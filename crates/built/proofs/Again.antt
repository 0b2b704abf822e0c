-- Tables built here are taken up again.
use Prim.Native.Nat.{ℕ, zero, suc, ◌+◌, ◌-◌, ◌*◌, ◌/◌, ◌^◌, ◌≤◌, ◌<◌}
use mathlib.Core.Bool.{Bool, true, false, not, ◌||◌}
use mathlib.Core.Path.{◌≡◌, refl, ap, sym, ◌∙◌}
use mathlib.Core.List.{List}
use native.Mathlib.Decide.{dec_le}
use native.Mathlib.Omega.{arith}
use lib.Dec.{eqb}
use lib.ListN.{length}
use Rattle.std.specs.Prelude.{if◌then◌else◌}
use Rattle.image.specs.Memory.{Fetched, found, missing, Memory, on_fetch}
use Rattle.image.specs.Rules.{run}
use Rattle.image.specs.Windows.{of_windows, bad_windows}
use Rattle.image.proofs.Bytes.{AreBytes}
use Rattle.image.proofs.Same.{one_word}
use Rattle.image.proofs.Words.{outside}
use Rattle.registers.specs.Registers.{registers_bad}
use Rattle.registers.specs.declared.Registers.{Registers}
use Rattle.dma.specs.Lookup.{Lookup, context, no_context, on_lookup, lookup_rules}
use Rattle.dma.specs.declared.context.Context.{Context}
use Rattle.marking.specs.Marking.{mark_all}
use Rattle.region.specs.Copy.{copied_in, word_shown}
use Rattle.region.specs.Region.{bad_region}
use Rattle.tables.specs.Tables.{Tables, held_entry, present, absent, empty_table}
use Rattle.tables.specs.declared.Tree.{Tree}
use Rattle.builder.specs.Build.{Built, all_taken, not_ready, at_item, LentBuffers, lent, after_items, when_ready, built}
use Rattle.builder.specs.Ready.{Readiness, refusal, not_yet, ready, sized, top_outside, tree_of, in_context, readiness}
use Rattle.leaves.specs.WellBuilt.{Placed, NoneEmpty}
use Rattle.leaves.proofs.Again.{pass-again, empty-passes}
use Rattle.leaves.proofs.Alike.{built_alike, none-empty-alike}
use Rattle.leaves.proofs.Marked.{marked-none-empty}
use Rattle.built.specs.Again.{BuildsOnEmpty, BuildsAgain}
use Rattle.built.proofs.Builds.{Readied, readied, Completed, copy_of, marked_of, end_of, after_of, build-cases}
use Rattle.built.proofs.Copies.{entry-below, length-in, word_in}
use Rattle.built.proofs.Own.{lookup-same}
use Rattle.built.proofs.Setting.{Setting, setting, placed, leaves, ended-bytes, ended-length, shown', Region, ready-region, ready-first, ready-inside, ready-top-is, ready-placed}
use Rattle.built.proofs.Through.{word_below}

-- reason 4 with no item is that of a top table outside the region, or of marks
module _ (registers : Registers) (source start size : ℕ) (windows items : List ℕ) (l : LentBuffers) where
  abbrev Found : Context → Type 0
  Found c = run (lookup_rules registers source) (of_windows windows l.memory) ≡ context c

  past-refusal : (t : Bool) (rest : Readiness) → (if t then refusal 1 else rest) ≡ not_yet 4 → rest ≡ not_yet 4
  past-refusal true rest h = let z : ◌≡◌ {A = ℕ} 0 1 = cc in absurd (omega arith)
  past-refusal false rest h = h

  past : (t : Bool) (n : ℕ) (rest : Readiness) → (n ≡ 4 → ⊥) → (if t then not_yet n else rest) ≡ not_yet 4 → rest ≡ not_yet 4
  past true n rest other h = let z : n ≡ 4 = cc in absurd (other z)
  past false n rest other h = h

  -- the last test
  outside-4 : (t : Bool) (tree : Tree) → (if t then not_yet 4 else ready tree) ≡ not_yet 4 → t ≡ true
  outside-4 true tree h = refl
  outside-4 false tree h = let z : ◌≡◌ {A = ℕ} 0 1 = cc in absurd (omega arith)

  not-outside : ((c : Context) → Found c → top_outside start size c.top ≡ false)
      → readiness registers windows l.memory start size (length l.copy) (length l.marks) source ≡ not_yet 4 → ⊥
  unfolding readiness in_context
  not-outside inside h =
      by (run (lookup_rules registers source) (of_windows windows l.memory)) refl
      (past (not registers.te) 1 _ (λ e. omega arith) (past-refusal (bad_windows windows (length l.memory) || registers_bad registers) _ h))
    where
      by : (k : Lookup) → run (lookup_rules registers source) (of_windows windows l.memory) ≡ k
          → on_lookup k (λ reason fpd. not_yet 2) (in_context registers windows l.memory start size (length l.copy) (length l.marks)) ≡ not_yet 4 → ⊥
      by (no_context reason fpd) is h = let z : ◌≡◌ {A = ℕ} 2 4 = cc in omega arith
      by (context c) is h =
          let h1 = past (eqb c.translation_type 2) 2 _ (λ e. omega arith) h in
          let h2 = past (bad_region registers windows l.memory start size) 3 _ (λ e. omega arith) h1 in
          let h3 = past (not (sized size (length l.copy) (length l.marks))) 5 _ (λ e. omega arith) h2 in
          let out = outside-4 (top_outside start size c.top) (tree_of start c) h3 in
          let z : ◌≡◌ {A = Bool} true false = sym out ∙ inside c is in
          let y : ◌≡◌ {A = ℕ} 0 1 = cc in
          omega arith

  pub taken-up : ((c : Context) → Found c → top_outside start size c.top ≡ false)
      → ((tree : Tree) → Readied registers windows l.memory start size (length l.copy) (length l.marks) source tree
      → (marked_of registers source start size windows items l tree).0 ≡ true)
      → (built registers source start size windows items l).0 ≡ not_ready 4 → ⊥
  unfolding built
  taken-up inside marked = by (readiness registers windows l.memory start size (length l.copy) (length l.marks) source) refl
    where
      by : (r : Readiness) → readiness registers windows l.memory start size (length l.copy) (length l.marks) source ≡ r
          → (when_ready registers windows items l.memory l.copy l.marks r).0 ≡ not_ready 4 → ⊥
      by (refusal n) is h = let z : ◌≡◌ {A = ℕ} 0 1 = cc in omega arith
      by (not_yet n) is h = let four : n ≡ 4 = cc in not-outside inside (is ∙ ap not_yet four)
      by (ready tree) is h =
          on-marks (marked_of registers source start size windows items l tree).0
          (marked tree (readied registers windows l.memory start size (length l.copy) (length l.marks) source is)) h
        where
          on-items : (t : Bool) → (if◌then◌else◌ {A = Built × LentBuffers} t
              (all_taken, lent (after_of registers source start size windows items l tree) (end_of registers source start size windows items l tree).1.bytes (end_of registers source start size windows items l tree).1.marks)
              (at_item (end_of registers source start size windows items l tree).0.index (end_of registers source start size windows items l tree).0.reason, lent l.memory (end_of registers source start size windows items l tree).1.bytes (end_of registers source start size windows items l tree).1.marks)).0 ≡ not_ready 4 → ⊥
          on-items true h = let z : ◌≡◌ {A = ℕ} 0 1 = cc in omega arith
          on-items false h = let z : ◌≡◌ {A = ℕ} 0 1 = cc in omega arith

          on-marks : (t : Bool) → t ≡ true
              → (if◌then◌else◌ {A = Built × LentBuffers} t (after_items registers windows items l.memory tree (end_of registers source start size windows items l tree))
              (not_ready 4, lent l.memory (copy_of registers source start size windows items l tree) (marked_of registers source start size windows items l tree).1)).0 ≡ not_ready 4 → ⊥
          on-marks true e h = on-items (eqb (end_of registers source start size windows items l tree).0.reason 0) h
          on-marks false e h = let y : ◌≡◌ {A = ℕ} 0 1 = cc in omega arith

-- a word that a run of bytes doesn't hold
none-there : (bytes : List ℕ) (at : ℕ) → length bytes < at + 8 → held_entry bytes at ≡ 0
unfolding held_entry
none-there bytes at h = ap (λ (f : Fetched). on_fetch f 0 (λ e. e)) (outside bytes 0 at (omega arith))

module _ (registers : Registers) (source start size : ℕ) (windows items : List ℕ) (l : LentBuffers)
    (bytes : AreBytes l.memory) (copied : AreBytes l.copy) (tree : Tree) (c : Completed registers source start size windows items l tree)
    (items' copy marks : List ℕ) where
  abbrev after : List ℕ
  after = after_of registers source start size windows items l tree

  abbrev next : LentBuffers
  next = lent after copy marks

  st : Setting registers start size items c.ready.own (of_windows windows l.memory) (of_windows windows after)
  st = setting registers source start size windows items l bytes copied tree c

  abbrev ended : Tables
  ended = (end_of registers source start size windows items l tree).1

  same-own : (d : Context) → run (lookup_rules registers source) (of_windows windows after) ≡ context d → d ≡ c.ready.own
  same-own d is =
      let z : context d ≡ context c.ready.own =
      sym is ∙ (lookup-same registers start size items c.ready.own (of_windows windows l.memory) (of_windows windows after) st source).answers ∙ c.ready.own-context in
      cc

  filled : NoneEmpty ended.bytes ended.marks tree
  filled =
      (leaves registers source start size windows items l bytes copied tree c).none-empty
      (marked-none-empty (copy_of registers source start size windows items l tree) tree (length l.marks) (placed registers source start size windows items l bytes copied tree c) c.marked)

  module _ (u : Tree) (r : Readied registers windows after start size (length copy) (length marks) source u) where
    same-tree : u ≡ tree
    same-tree = r.is ∙ ap (tree_of start) (same-own r.own r.own-context) ∙ sym c.ready.is

    abbrev begun : List ℕ
    begun = copied_in (of_windows windows after) tree.start (length copy / 8) 0 copy

    begun-length : length begun ≡ size
    begun-length = length-in (of_windows windows after) tree.start (length copy / 8) 0 copy ∙ r.copy-size

    same_word : (x : ℕ) → held_entry begun (8 * x) ≡ held_entry ended.bytes (8 * x)
    unfolding word_shown
    same_word x = by (dec_le (8 * x + 8) size)
      where
        by : Dec (8 * x + 8 ≤ size) → held_entry begun (8 * x) ≡ held_entry ended.bytes (8 * x)
        by (yes few) =
            let m = of_windows windows after in
            let long = ended-length registers source start size windows items l bytes copied tree c in
            let there = shown' registers source start size windows items l bytes copied tree c x (omega (arith, long)) in
            let all : 0 + 8 * x ≡ 8 * x = omega arith in
            let told : word_shown m (tree.start + (0 + 8 * x)) ≡ held_entry ended.bytes (8 * x) =
            ap (λ (k : ℕ). word_shown m (tree.start + k)) all
            ∙ ap (λ (f : Fetched). on_fetch f 0 (λ e. e)) (one_word m (tree.start + 8 * x) ∙ there) in
            let small : word_shown m (tree.start + (0 + 8 * x)) < 2 ^ 64 =
            rw told (entry-below ended.bytes (ended-bytes registers source start size windows items l bytes copied tree c) (8 * x)) in
            let is = word_in m tree.start (length copy / 8) 0 copy (omega arith) x (omega (arith, r.copy-size)) small in
            sym (ap (held_entry begun) all) ∙ is ∙ told
        by (no out) =
            none-there begun (8 * x) (omega (arith, begun-length))
            ∙ sym (none-there ended.bytes (8 * x) (omega (arith, ended-length registers source start size windows items l bytes copied tree c)))

    passes : (mark_all begun tree (length marks)).0 ≡ true
    passes =
        let l' = leaves registers source start size windows items l bytes copied tree c in
        let long : length begun ≡ length ended.bytes = begun-length ∙ sym (ended-length registers source start size windows items l bytes copied tree c) in
        let w = built_alike ended.bytes begun ended.marks tree same_word long l'.well-built in
        let full = none-empty-alike ended.bytes begun ended.marks tree same_word filled in
        let count : length ended.marks ≡ length marks = omega (arith, w.sized, begun-length, r.marks-size) in
        rw count at (pass-again begun ended.marks tree w full)

    marked : (marked_of registers source start size windows items' next u).0 ≡ true
    marked = rw same-tree passes

  again : (built registers source start size windows items' next).0 ≡ not_ready 4 → ⊥
  again =
      taken-up registers source start size windows items' next
      (λ d is. let same : d ≡ c.ready.own = same-own d is in rw same c.ready.inside) marked

pub builds-again : BuildsAgain
builds-again registers source start size windows items l bytes copied =
    build-cases registers source start size windows items l
    (λ (end : Built × LentBuffers). end.0 ≡ all_taken → (items' copy marks : List ℕ)
    → (built registers source start size windows items' (lent end.1.memory copy marks)).0 ≡ not_ready 4 → ⊥)
    (λ x copy marks other is. absurd (other is))
    (λ tree copy marks c is items' copy' marks'. again registers source start size windows items l bytes copied tree c items' copy' marks')

-- a word that memory of bytes shows
word_small : (windows run : List ℕ) → AreBytes run → (at : ℕ) → word_shown (of_windows windows run) at < 2 ^ 64
unfolding word_shown
word_small windows run are at =
    rw (one_word (of_windows windows run) at) (by (of_windows windows run at) refl)
  where
    by : (f : Fetched) → of_windows windows run at ≡ f → on_fetch f 0 (λ e. e) < 2 ^ 64
    by missing is = omega arith
    by (found w) is = word_below windows run are at is

all-absent : (n : ℕ) (bytes : List ℕ) (at : ℕ) → ((k : ℕ) → k < n → present (held_entry bytes (at + 8 * k)) ≡ false) → absent n bytes at ≡ true
unfolding absent
all-absent zero bytes at h = refl
all-absent (suc n) bytes at h =
    let here : at + 8 * 0 ≡ at = omega arith in
    let first : present (held_entry bytes at) ≡ false = rw here at (h 0 (omega arith)) in
    rw first
    (all-absent n bytes (at + 8) (λ k few. let next : at + 8 * suc k ≡ at + 8 + 8 * k = omega arith in rw next at (h (suc k) (omega arith))))

pub builds-on-empty : BuildsOnEmpty
builds-on-empty registers source start size windows items l bytes own is inside empty =
    taken-up registers source start size windows items l (λ d found. let same : d ≡ own = one d found in rw same inside) marked
  where
    m : Memory
    m = of_windows windows l.memory

    one : (d : Context) → run (lookup_rules registers source) (of_windows windows l.memory) ≡ context d → d ≡ own
    one d found-d = let z : context d ≡ context own = sym found-d ∙ is in cc

    marked : (tree : Tree) → Readied registers windows l.memory start size (length l.copy) (length l.marks) source tree
        → (marked_of registers source start size windows items l tree).0 ≡ true
    marked tree r = empty-passes begun tree (length l.marks) at_place long top-inside none
      where
        begun : List ℕ
        begun = copy_of registers source start size windows items l tree

        at_place : Placed tree (length l.marks)
        at_place = ready-placed registers windows l.memory start size (length l.copy) (length l.marks) source tree r

        region : Region registers windows l.memory start size
        region = ready-region registers windows l.memory start size (length l.copy) (length l.marks) source tree r

        long : length (copy_of registers source start size windows items l tree) ≡ 4096 * length l.marks
        long =
            length-in (of_windows windows l.memory) tree.start (length l.copy / 8) 0 l.copy
            ∙ omega (arith, r.copy-size, r.marks-size, region.pages)

        top-is : r.own.top ≡ tree.start + tree.top
        top-is = ready-top-is registers windows l.memory start size (length l.copy) (length l.marks) source tree r

        bounds : (start ≤ r.own.top) × (r.own.top - start < size)
        bounds = ready-inside registers windows l.memory start size (length l.copy) (length l.marks) source tree r

        begins : tree.start ≡ start
        begins = ready-first registers windows l.memory start size (length l.copy) (length l.marks) source tree r

        top-inside : tree.top < 4096 * length l.marks
        top-inside = omega (arith, top-is, bounds.0, bounds.1, begins, r.marks-size, region.pages)

        own-top : own.top ≡ tree.start + tree.top
        own-top = ap (λ (d : Context). d.top) (sym (one r.own r.own-context)) ∙ top-is

        none : empty_table (copy_of registers source start size windows items l tree) tree.top ≡ true
        none = all-absent 512 (copy_of registers source start size windows items l tree) tree.top each
          where
            each : (k : ℕ) → k < 512 → present (held_entry (copy_of registers source start size windows items l tree) (tree.top + 8 * k)) ≡ false
            each k few =
                let x = tree.top / 8 + k in
                let at : 0 + 8 * x ≡ tree.top + 8 * k = omega (arith, at_place.top-aligned) in
                let word = word_in (of_windows windows l.memory) tree.start (length l.copy / 8) 0 l.copy (omega arith) x
                (omega (arith, top-inside, at_place.top-aligned, r.copy-size, r.marks-size, region.pages))
                (word_small windows l.memory bytes (tree.start + (0 + 8 * x))) in
                let place : tree.start + (0 + 8 * x) ≡ own.top + 8 * k = omega (arith, at, own-top) in
                rw (← at, word, place) (empty k few)
