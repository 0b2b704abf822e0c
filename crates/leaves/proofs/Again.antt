-- Tables as built here pass the marking: an entry that leads on leads to a page that no entry before it led to.
use Prim.Native.Nat.{ℕ, zero, suc, ◌+◌, ◌-◌, ◌*◌, ◌/◌, ◌%◌, ◌<◌, ◌≤◌}
use mathlib.Core.Bool.{Bool, true, false, not, ◌&&◌, ◌||◌}
use mathlib.Core.Path.{◌≡◌, refl, ap, sym, ◌∙◌}
use mathlib.Core.List.{List}
use mathlib.Core.Logic.{◌⊎◌, inl, inr}
use native.Mathlib.Decide.{ℕ_discrete}
use native.Mathlib.Omega.{arith}
use borrow.Author.Tests.{eqb-true, eqb-false, eq-eqb}
use lib.Dec.{eqb}
use lib.ListN.{length, get_or, set, replicate, length-set, length-replicate, get_or-replicate}
use lib.Seq.{get_or-set_same}
use Rattle.std.specs.Prelude.{if◌then◌else◌}
use Rattle.tables.specs.Tables.{held_entry, present, maps_page, table_entry, table_of, empty_table}
use Rattle.tables.specs.declared.Tree.{Tree}
use Rattle.marking.specs.Marking.{Marked, then_mark, free_page, leads_to_free, mark_entry, mark_entries, mark_table, mark_level, mark_levels, mark_all}
use Rattle.std.proofs.lemmas.List.{get_or_default}
use Rattle.leaves.specs.Claims.{PassAgain, EmptyPasses}
use Rattle.leaves.specs.WellBuilt.{leads_on, Leads, WellBuilt, NoneEmpty}
use Rattle.leaves.proofs.Entries.{each-absent}
use Rattle.leaves.proofs.Marked.{Seen, From, top_alone, top-alone}
use Rattle.leaves.proofs.Passes.{marked-inside, leads-deep, led-to}
use Rattle.leaves.proofs.Steps.{absent-ends, contradicts, other-mark}

module _ (bytes marks : List ℕ) (tree : Tree) (w : WellBuilt bytes marks tree) (filled : NoneEmpty bytes marks tree) where
  -- The marks made so far are among those of the tables; and where a page has one, the entry that leads to it was seen.
  record Sofar (S : (x n : ℕ) → Type 0) (made : List ℕ) : Type 0 where
    pub sized : length made ≡ length marks
    pub among : (page n : ℕ) → get_or made page 0 ≡ suc n → get_or marks page 0 ≡ suc n
    pub met : (page n : ℕ) → get_or made page 0 ≡ suc n
        → (4096 * page ≡ tree.top) ⊎ ((k : ℕ) → get_or marks (w.from page / 512) 0 ≡ suc k → S (w.from page) k)

  -- a turn that lets pass
  record Passed (S : (x n : ℕ) → Type 0) (m : Marked) : Type 0 where
    pub good : m.0 ≡ true
    pub sofar : Sofar S m.1

  then-passed : (S T : (x n : ℕ) → Type 0) (m : Marked) (next : List ℕ → Marked) → Passed S m → Passed T (next m.1) → Passed T (then_mark m next)
  then-passed S T m next p q = let h = p.good in rw h q

  more : (S T : (x n : ℕ) → Type 0) (made : List ℕ) → ((x n : ℕ) → S x n → T x n) → Sofar S made → Sofar T made
  more S T made of s = record { sized = s.sized; among = s.among; met = λ page n m. by page (s.met page n m) }
    where
      by : (page : ℕ) → (4096 * page ≡ tree.top) ⊎ ((k : ℕ) → get_or marks (w.from page / 512) 0 ≡ suc k → S (w.from page) k)
          → (4096 * page ≡ tree.top) ⊎ ((k : ℕ) → get_or marks (w.from page / 512) 0 ≡ suc k → T (w.from page) k)
      by page (inl top) = inl top
      by page (inr f) = inr (λ k m. of (w.from page) k (f k m))

  later : (level z y x n : ℕ) → z ≤ y → Seen level z x n → Seen level y x n
  later level z y x n less (inl s) = inl s
  later level z y x n less (inr s) = inr (s.0, omega (arith, s.1))

  -- one entry, of a table of the level
  module _ (level z : ℕ) (made : List ℕ) (low : level ≤ tree.below) (s : Sofar (Seen level z) made) (mark : get_or made (z / 512) 0 ≡ suc level) where
    -- the page that it leads to is free
    still-free : (page : ℕ) → get_or marks page 0 ≡ level → w.from page ≡ z → (v : ℕ) → get_or made page 0 ≡ v → v ≡ 0
    still-free page m alone zero e = refl
    still-free page m alone (suc n) e = absurd (by (s.met page n e))
      where
        by : (4096 * page ≡ tree.top) ⊎ ((k : ℕ) → get_or marks (w.from page / 512) 0 ≡ suc k → Seen level z (w.from page) k) → ⊥
        by (inl top) =
            let is : page ≡ tree.top / 4096 = omega arith in
            let m' : get_or marks (tree.top / 4096) 0 ≡ level = rw is at m in
            omega (arith, w.top-marked)
        by (inr seen) = no_more (rw alone at (seen level (rw alone (s.among (z / 512) level mark))))
          where
            no_more : Seen level z z level → ⊥
            no_more (inl h) = omega arith
            no_more (inr h) = omega (arith, h.1)

    record Turn (m : Marked) : Type 0 where
      pub passed : Passed (Seen level (suc z)) m
      pub stays : (page n : ℕ) → get_or made page 0 ≡ suc n → get_or m.1 page 0 ≡ suc n

    module _ (h : leads_on level (held_entry bytes (8 * z)) ≡ true) (l : Leads tree marks w.from z level (held_entry bytes (8 * z))) where
      abbrev f : ℕ
      f = l.page

      down : table_of tree.start (held_entry bytes (8 * z)) ≡ 4096 * f
      down = led-to bytes marks tree w z level (s.among (z / 512) level mark) h l

      deep : 0 < level
      deep = leads-deep level (held_entry bytes (8 * z)) h

      free : get_or made f 0 ≡ 0
      free = still-free f l.level l.alone (get_or made f 0) refl

      inside : f < length made
      inside = let k = marked-inside marks f {n = level - 1} (l.level ∙ omega (arith, deep)) in omega (arith, s.sized)

      to_free : leads_to_free tree.start made (held_entry bytes (8 * z)) ≡ true
      to_free =
          let back : 4096 * f / 4096 ≡ f = omega arith in
          let none : get_or made f 1 ≡ 0 = get_or_default made f 1 0 inside ∙ free in
          rw (down, back, eq-eqb (held_entry bytes (8 * z)) (table_entry tree.start (4096 * f)) l.entry, eq-eqb (get_or made f 1) 0 none)

      marked : Sofar (Seen level (suc z)) (set made f level)
      marked =
          record {
            sized = length-set made f level ∙ s.sized;
            among = λ page n m. among page n m (ℕ_discrete page f);
            met = λ page n m. met page n m (ℕ_discrete page f);
          }
        where
          here : (n : ℕ) (page : ℕ) → get_or (set made f level) page 0 ≡ suc n → page ≡ f → level ≡ suc n
          here n page m same = sym (get_or-set_same made f level 0 inside) ∙ (rw same at m)

          among : (page n : ℕ) → get_or (set made f level) page 0 ≡ suc n → Dec (page ≡ f) → get_or marks page 0 ≡ suc n
          among page n m (yes same) = rw same (l.level ∙ here n page m same)
          among page n m (no apart) = s.among page n (sym (other-mark made f level page apart) ∙ m)

          met : (page n : ℕ) → get_or (set made f level) page 0 ≡ suc n → Dec (page ≡ f)
              → (4096 * page ≡ tree.top) ⊎ ((k : ℕ) → get_or marks (w.from page / 512) 0 ≡ suc k → Seen level (suc z) (w.from page) k)
          met page n m (yes same) = inr (λ k mk. now k mk)
            where
              from-z : w.from page ≡ z
              from-z = ap w.from same ∙ l.alone

              now : (k : ℕ) → get_or marks (w.from page / 512) 0 ≡ suc k → Seen level (suc z) (w.from page) k
              now k mk =
                  let mk' : get_or marks (z / 512) 0 ≡ suc k = rw from-z at mk in
                  inr (omega (arith, s.among (z / 512) level mark), omega (arith, from-z))
          met page n m (no apart) = (more (Seen level z) (Seen level (suc z)) made (λ x k. later level z (suc z) x k (omega arith)) s).met page n (sym (other-mark made f level page apart) ∙ m)

      stays-marked : (page n : ℕ) → get_or made page 0 ≡ suc n → get_or (set made f level) page 0 ≡ suc n
      stays-marked page n m = other-mark made f level page (λ same. let m' : get_or made f 0 ≡ suc n = rw same at m in omega (arith, free)) ∙ m

      passed-marked : Turn (true, set made f level)
      passed-marked = record { passed = record { good = refl; sofar = marked }; stays = stays-marked }

      led_on : Turn (if◌then◌else◌ {A = Marked} (leads_to_free tree.start made (held_entry bytes (8 * z))) (true, set made (table_of tree.start (held_entry bytes (8 * z)) / 4096) level) (false, made))
      led_on =
          let back : table_of tree.start (held_entry bytes (8 * z)) / 4096 ≡ f = omega (arith, down) in
          rw (to_free, back) passed-marked

    unmarked : Turn (true, made)
    unmarked =
        record {
          passed = record { good = refl; sofar = more (Seen level z) (Seen level (suc z)) made (λ x k. later level z (suc z) x k (omega arith)) s };
          stays = λ page n m. m;
        }

    entry-passes : Turn (mark_entry tree.start level (held_entry bytes (8 * z)) made)
    unfolding mark_entry
    entry-passes = go (present e) (maps_page level e) refl
      where
        e : ℕ
        e = held_entry bytes (8 * z)

        go : (p m : Bool) → leads_on level e ≡ (p && not m)
            → Turn (if◌then◌else◌ {A = Marked} (not p || m) (true, made) (if leads_to_free tree.start made e then (true, set made (table_of tree.start e / 4096) level) else (false, made)))
        go false m h = unmarked
        go true true h = unmarked
        go true false h = led_on h (w.leads z level (s.among (z / 512) level mark) h)

  -- so many entries of a table
  entries-pass : (level k z page : ℕ) (made : List ℕ) → level ≤ tree.below → Sofar (Seen level z) made → get_or made page 0 ≡ suc level
      → 512 * page ≤ z → z + k ≤ 512 * page + 512 → Passed (Seen level (z + k)) (mark_entries bytes tree.start level k (8 * z) made)
  unfolding mark_entries
  entries-pass level zero z page made low s mark from to =
      let same : z + 0 ≡ z = omega arith in rw same (record { good = refl; sofar = s })
  entries-pass level (suc k) z page made low s mark from to =
      let here : z / 512 ≡ page = omega arith in
      let next : 8 * z + 8 ≡ 8 * suc z = omega arith in
      let sum : z + suc k ≡ suc z + k = omega arith in
      let one = mark_entry tree.start level (held_entry bytes (8 * z)) made in
      let turn = entry-passes level z made low s (rw here mark) in
      let rest = entries-pass level k (suc z) page one.1 low turn.passed.sofar (turn.stays page level mark) (omega arith) (omega arith) in
      then-passed (Seen level (suc z)) (Seen level (z + suc k)) one (mark_entries bytes tree.start level k (8 * z + 8)) turn.passed
      (rw (next, sum) rest)

  table-passes : (level page : ℕ) (made : List ℕ) → level ≤ tree.below → Sofar (Seen level (512 * page)) made
      → Passed (Seen level (512 * (page + 1))) (mark_table bytes tree level page made)
  unfolding mark_table
  table-passes level page made low s = go (eqb (get_or made page 0) (suc level)) refl
    where
      next : 512 * (page + 1) ≡ 512 * page + 512
      next = omega arith

      place : 4096 * page ≡ 8 * (512 * page)
      place = omega arith

      good : get_or made page 0 ≡ suc level → (t : Bool) → eqb (4096 * page) tree.top ≡ t → (not t && empty_table bytes (4096 * page)) ≡ false
      good m true e = refl
      good m false e = filled page level (s.among page level m) (eqb-false (4096 * page) tree.top e)

      go : (a : Bool) → eqb (get_or made page 0) (suc level) ≡ a
          → Passed (Seen level (512 * (page + 1)))
          (if◌then◌else◌ {A = Marked} (not a) (true, made) (if not (eqb (4096 * page) tree.top) && empty_table bytes (4096 * page) then (false, made) else mark_entries bytes tree.start level 512 (4096 * page) made))
      go false e =
          record {
            good = refl;
            sofar = more (Seen level (512 * page)) (Seen level (512 * (page + 1))) made (λ x k. later level (512 * page) (512 * (page + 1)) x k (omega arith)) s;
          }
      go true e =
          let m = eqb-true (get_or made page 0) (suc level) e in
          let fine = good m (eqb (4096 * page) tree.top) refl in
          rw (fine, place, next) (entries-pass level 512 (512 * page) page made low s m (omega arith) (omega arith))

  level-passes : (level k page : ℕ) (made : List ℕ) → level ≤ tree.below → Sofar (Seen level (512 * page)) made
      → Passed (Seen level (512 * (page + k))) (mark_level bytes tree level k page made)
  unfolding mark_level
  level-passes level zero page made low s = let same : page + 0 ≡ page = omega arith in rw same (record { good = refl; sofar = s })
  level-passes level (suc k) page made low s =
      let sum : page + suc k ≡ page + 1 + k = omega arith in
      let one = mark_table bytes tree level page made in
      let turn = table-passes level page made low s in
      then-passed (Seen level (512 * (page + 1))) (Seen level (512 * (page + suc k))) one (mark_level bytes tree level k (page + 1)) turn
      (rw sum (level-passes level k (page + 1) one.1 low turn.sofar))

  levels-pass : (k : ℕ) (made : List ℕ) → k ≤ tree.below + 1 → Sofar (From k) made → Passed (From 0) (mark_levels bytes tree k made)
  unfolding mark_levels
  levels-pass zero made low s = record { good = refl; sofar = s }
  levels-pass (suc k) made low s =
      let one = mark_level bytes tree k (length made) 0 made in
      let z = 512 * (0 + length made) in
      let begun : Sofar (Seen k (512 * 0)) made = more (From (suc k)) (Seen k (512 * 0)) made (λ x n h. inl h) s in
      let turn = level-passes k (length made) 0 made (omega arith) begun in
      let done : Sofar (From k) one.1 = more (Seen k z) (From k) one.1 (λ x n h. deep z x n h) turn.sofar in
      then-passed (Seen k z) (From 0) one (mark_levels bytes tree k) turn (levels-pass k one.1 (omega arith) done)
    where
      deep : (z x n : ℕ) → Seen k z x n → From k x n
      deep z x n (inl h) = omega arith
      deep z x n (inr h) = omega (arith, h.0)

  top-inside : tree.top / 4096 < length marks
  top-inside = marked-inside marks (tree.top / 4096) {n = tree.below} (w.top-marked ∙ omega arith)

  first : Sofar (From (tree.below + 1)) (top_alone tree (length marks))
  first =
      record {
        sized = length-set (replicate (length marks) 0) (tree.top / 4096) (tree.below + 1) ∙ length-replicate (length marks) 0;
        among = λ page n m. (let t = top-alone tree (length marks) page n top-inside m in rw t.0 (w.top-marked ∙ omega (arith, t.1)));
        met = λ page n m. inl (let t = top-alone tree (length marks) page n top-inside m in omega (arith, t.0, w.placed.top-aligned));
      }

  all-passed : Passed (From 0) (mark_all bytes tree (length marks))
  unfolding mark_all
  all-passed =
      let free : free_page (replicate (length marks) 0) tree.top ≡ true =
      eq-eqb (get_or (replicate (length marks) 0) (tree.top / 4096) 1) 0 (get_or-replicate (length marks) (tree.top / 4096) 0 1 top-inside) in
      rw free (levels-pass (tree.below + 1) (top_alone tree (length marks)) (omega arith) first)

pub pass-again : PassAgain
pass-again bytes marks tree w filled = (all-passed bytes marks tree w filled).good

pub empty-passes : EmptyPasses
empty-passes bytes tree pages placed sized top empty =
    rw same at (pass-again bytes (top_alone tree pages) tree alone (λ page below m other. absurd (other (whole page below m))))
  where
    same : length (top_alone tree pages) ≡ pages
    same = length-set (replicate pages 0) (tree.top / 4096) (tree.below + 1) ∙ length-replicate pages 0

    inside : tree.top / 4096 < pages
    inside = omega arith

    whole : (page below : ℕ) → get_or (top_alone tree pages) page 0 ≡ suc below → 4096 * page ≡ tree.top
    whole page below m = let t = top-alone tree pages page below inside m in omega (arith, t.0, placed.top-aligned)

    none-leads : (n below : ℕ) → get_or (top_alone tree pages) (n / 512) 0 ≡ suc below → leads_on below (held_entry bytes (8 * n)) ≡ true → ⊥
    none-leads n below m h =
        let t = top-alone tree pages (n / 512) below inside m in
        let at : tree.top + 8 * (n % 512) ≡ 8 * n = omega (arith, t.0, placed.top-aligned) in
        let gone : present (held_entry bytes (8 * n)) ≡ false = rw (← at) (each-absent 512 bytes tree.top (n % 512) empty (omega arith)) in
        contradicts (absent-ends below (held_entry bytes (8 * n)) gone) h

    alone : WellBuilt bytes (top_alone tree pages) tree
    alone =
        record {
          placed = rw same placed;
          sized = rw same sized;
          top-marked = get_or-set_same (replicate pages 0) (tree.top / 4096) (tree.below + 1) 0 (rw (length-replicate {A = ℕ} pages 0) inside);
          from = λ page. 0;
          leads = λ n below m h. absurd (none-leads n below m h);
        }
