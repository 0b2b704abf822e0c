-- Tables that the marking lets pass are as built here: level by level, and in a level entry by entry, each that leads on leads to a page
-- that was free until then.
use Prim.Native.Nat.{ℕ, zero, suc, ◌+◌, ◌*◌, ◌/◌, ◌%◌, ◌<◌, ◌≤◌}
use mathlib.Core.Bool.{Bool, true, false, not, ◌&&◌, ◌||◌}
use mathlib.Core.Path.{◌≡◌, refl, ap, sym, ◌∙◌}
use mathlib.Core.List.{List}
use mathlib.Core.Logic.{◌⊎◌, inl, inr}
use native.Mathlib.Decide.{dec_le, ℕ_discrete}
use native.Mathlib.Omega.{arith}
use borrow.Author.Tests.{eqb-true, eqb-false, eq-eqb, ne_eqb}
use lib.Dec.{eqb}
use lib.ListN.{length, get_or, set, replicate, length-set, length-replicate, get_or-replicate, get_or-eq_default}
use lib.Seq.{get_or-set_same}
use Rattle.std.specs.Prelude.{if◌then◌else◌}
use Rattle.image.proofs.Choices.{both}
use Rattle.tables.specs.Tables.{held_entry, present, maps_page, table_entry, table_of, empty_table}
use Rattle.tables.specs.declared.Tree.{Tree}
use Rattle.marking.specs.Marking.{Marked, then_mark, free_page, leads_to_free, mark_entry, mark_entries, mark_table, mark_level, mark_levels, mark_all}
use Rattle.std.proofs.lemmas.List.{get_or_default}
use Rattle.leaves.specs.Claims.{MarkedAsBuilt, MarkedNoneEmpty}
use Rattle.leaves.specs.WellBuilt.{Placed, leads_on, Leads}
use Rattle.leaves.proofs.Passes.{marked-inside, leads-deep}
use Rattle.leaves.proofs.Steps.{contradicts, other-mark}

-- a turn that let pass, and the next one after it
then-good : (m : Marked) (next : List ℕ → Marked) → (then_mark m next).0 ≡ true → (m.0 ≡ true) × (then_mark m next ≡ next m.1)
then-good m next h = go m.0 refl h
  where
    go : (b : Bool) → m.0 ≡ b → (if b then next m.1 else m).0 ≡ true → (m.0 ≡ true) × ((if b then next m.1 else m) ≡ next m.1)
    go true e h = (e, refl)
    go false e h = absurd (contradicts e h)

free-inside : (marks : List ℕ) (page : ℕ) → get_or marks page 1 ≡ 0 → page < length marks
free-inside marks page h = go (dec_le (length marks) page)
  where
    go : Dec (length marks ≤ page) → page < length marks
    go (yes out) = let one = get_or-eq_default marks 1 out in absurd (omega arith)
    go (no in-it) = omega arith

table-whole : (start e : ℕ) → start % 4096 ≡ 0 → table_of start e ≡ 4096 * (table_of start e / 4096)
unfolding table_of
table-whole start e aligned = omega arith

-- entries of the tables above a level, and those of its tables before entry z
abbrev pub Seen : (level z x n : ℕ) → Type 0
Seen level z x n = (level < n) ⊎ ((n ≡ level) × (x < z))

-- entries of the tables from a level up
abbrev pub From : (level x n : ℕ) → Type 0
From level x n = level ≤ n

-- the marks when the top table alone has one
abbrev pub top_alone : Tree → (pages : ℕ) → List ℕ
top_alone tree pages = set (replicate pages 0) (tree.top / 4096) (tree.below + 1)

pub top-alone : (tree : Tree) (pages page n : ℕ) → tree.top / 4096 < pages → get_or (top_alone tree pages) page 0 ≡ suc n
    → (page ≡ tree.top / 4096) × (n ≡ tree.below)
top-alone tree pages page n inside m = by (ℕ_discrete page (tree.top / 4096))
  where
    zeros : Dec (pages ≤ page) → get_or {A = ℕ} (replicate pages 0) page 0 ≡ 0
    zeros (yes out) = get_or-eq_default (replicate pages 0) 0 (rw (length-replicate {A = ℕ} pages 0) out)
    zeros (no in-it) = get_or-replicate pages page 0 0 (omega arith)

    by : Dec (page ≡ tree.top / 4096) → (page ≡ tree.top / 4096) × (n ≡ tree.below)
    by (yes same) =
        let k = get_or-set_same (replicate pages 0) (tree.top / 4096) (tree.below + 1) 0 (rw (length-replicate {A = ℕ} pages 0) inside) in
        let m' : get_or (top_alone tree pages) (tree.top / 4096) 0 ≡ suc n = rw same at m in
        (same, omega arith)
    by (no apart) =
        let k = other-mark (replicate pages 0) (tree.top / 4096) (tree.below + 1) page apart in
        let z = zeros (dec_le pages page) in
        absurd (omega arith)

module _ (bytes : List ℕ) (tree : Tree) (pages : ℕ) (placed : Placed tree pages) where
  record Good (S : (x n : ℕ) → Type 0) (marks : List ℕ) : Type 0 where
    pub sized : length marks ≡ pages
    pub top-marked : get_or marks (tree.top / 4096) 0 ≡ tree.below + 1
    pub from : ℕ → ℕ
    pub leads : (x n : ℕ) → S x n → get_or marks (x / 512) 0 ≡ suc n → leads_on n (held_entry bytes (8 * x)) ≡ true
        → Leads tree marks from x n (held_entry bytes (8 * x))
    pub filled : (page n : ℕ) → S (512 * page) n → get_or marks page 0 ≡ suc n → (4096 * page ≡ tree.top → ⊥) → empty_table bytes (4096 * page) ≡ false

  fewer : (S T : (x n : ℕ) → Type 0) (marks : List ℕ) → ((x n : ℕ) → T x n → get_or marks (x / 512) 0 ≡ suc n → S x n) → Good S marks → Good T marks
  fewer S T marks of g =
      record {
        sized = g.sized;
        top-marked = g.top-marked;
        from = g.from;
        leads = λ x n s m h. g.leads x n (of x n s m) m h;
        filled = λ page n s m. (let here : 512 * page / 512 ≡ page = omega arith in g.filled page n (of (512 * page) n s (rw here m)) m);
      }

  seen-deep : (level z x n : ℕ) → Seen level z x n → level ≤ n
  seen-deep level z x n (inl h) = omega arith
  seen-deep level z x n (inr h) = omega (arith, h.0)

  -- one entry, of a table of the level
  module _ (level z : ℕ) (marks : List ℕ) (g : Good (Seen level z) marks) (mark : get_or marks (z / 512) 0 ≡ suc level)
      (full : (4096 * (z / 512) ≡ tree.top → ⊥) → empty_table bytes (4096 * (z / 512)) ≡ false) where
    full-next : (page n : ℕ) → Seen level (suc z) (512 * page) n → get_or marks page 0 ≡ suc n → (4096 * page ≡ tree.top → ⊥)
        → empty_table bytes (4096 * page) ≡ false
    full-next page n (inl s) m top = g.filled page n (inl s) m top
    full-next page n (inr s) m top = go (ℕ_discrete (512 * page) z)
      where
        go : Dec (512 * page ≡ z) → empty_table bytes (4096 * page) ≡ false
        go (yes same) = let here : page ≡ z / 512 = omega arith in rw here (full (rw here at top))
        go (no apart) = g.filled page n (inr (s.0, omega (arith, s.1, apart))) m top

    -- it leads nowhere
    passes : leads_on level (held_entry bytes (8 * z)) ≡ false → Good (Seen level (suc z)) marks
    passes h = record { sized = g.sized; top-marked = g.top-marked; from = g.from; leads = led; filled = full-next }
      where
        led : (x n : ℕ) → Seen level (suc z) x n → get_or marks (x / 512) 0 ≡ suc n → leads_on n (held_entry bytes (8 * x)) ≡ true
            → Leads tree marks g.from x n (held_entry bytes (8 * x))
        led x n (inl s) m l = g.leads x n (inl s) m l
        led x n (inr s) m l = go (ℕ_discrete x z)
          where
            go : Dec (x ≡ z) → Leads tree marks g.from x n (held_entry bytes (8 * x))
            go (yes same) = absurd (contradicts h (rw (s.0, same) at l))
            go (no apart) = g.leads x n (inr (s.0, omega (arith, s.1, apart))) m l

    -- it leads to a free page
    module _ (f : ℕ) (is : held_entry bytes (8 * z) ≡ table_entry tree.start (4096 * f)) (free : get_or marks f 0 ≡ 0) (inside : f < length marks) where
      abbrev from' : ℕ → ℕ
      from' page = if eqb page f then z else g.from page

      marked : Good (Seen level (suc z)) (set marks f level)
      marked =
          record {
            sized = length-set marks f level ∙ g.sized;
            top-marked = other-mark marks f level (tree.top / 4096) (λ same. let m = g.top-marked in let m' : get_or marks f 0 ≡ tree.below + 1 = rw same at m in omega arith) ∙ g.top-marked;
            from = from';
            leads = led;
            filled = λ page n s m. full-next page n s (sym (other-mark marks f level page (not_f page n s m)) ∙ m);
          }
        where
          not_f : (page n : ℕ) → Seen level (suc z) (512 * page) n → get_or (set marks f level) page 0 ≡ suc n → page ≡ f → ⊥
          not_f page n s m same =
              let m' : get_or (set marks f level) f 0 ≡ suc n = rw same at m in
              let k = get_or-set_same marks f level 0 inside in
              omega (arith, seen-deep level (suc z) (512 * page) n s)

          kept : (x n : ℕ) → level ≤ n → Leads tree marks g.from x n (held_entry bytes (8 * x)) → leads_on n (held_entry bytes (8 * x)) ≡ true
              → Leads tree (set marks f level) from' x n (held_entry bytes (8 * x))
          kept x n less l h =
              let deep = leads-deep n (held_entry bytes (8 * x)) h in
              let not_f : l.page ≡ f → ⊥ = λ same. (let k = l.level in let k' : get_or marks f 0 ≡ n = rw same at k in omega arith) in
              record {
                page = l.page;
                entry = l.entry;
                level = other-mark marks f level l.page not_f ∙ l.level;
                alone = rw (ne_eqb l.page f not_f) l.alone;
              }

          outside : (x n : ℕ) → level ≤ n → get_or (set marks f level) (x / 512) 0 ≡ suc n → x / 512 ≡ f → ⊥
          outside x n less m same =
              let m' : get_or (set marks f level) f 0 ≡ suc n = rw same at m in
              let k = get_or-set_same marks f level 0 inside in
              omega arith

          led : (x n : ℕ) → Seen level (suc z) x n → get_or (set marks f level) (x / 512) 0 ≡ suc n → leads_on n (held_entry bytes (8 * x)) ≡ true
              → Leads tree (set marks f level) from' x n (held_entry bytes (8 * x))
          led x n s m h = go s (ℕ_discrete x z)
            where
              less : level ≤ n
              less = seen-deep level (suc z) x n s

              m' : get_or marks (x / 512) 0 ≡ suc n
              m' = sym (other-mark marks f level (x / 512) (outside x n less m)) ∙ m

              go : Seen level (suc z) x n → Dec (x ≡ z) → Leads tree (set marks f level) from' x n (held_entry bytes (8 * x))
              go s (yes same) =
                  let m'' : get_or marks (z / 512) 0 ≡ suc n = rw same at m' in
                  let n-is : level ≡ n = omega arith in
                  record {
                    page = f;
                    entry = rw same is;
                    level = get_or-set_same marks f level 0 inside ∙ n-is;
                    alone = rw (eq-eqb f f refl) (sym same);
                  }
              go (inl s) (no apart) = kept x n less (g.leads x n (inl s) m' h) h
              go (inr s) (no apart) = kept x n less (g.leads x n (inr (s.0, omega (arith, s.1, apart))) m' h) h

    -- what came of it, and the mark of a table before it stays
    record Step (after : List ℕ) : Type 0 where
      pub good : Good (Seen level (suc z)) after
      pub stays : (page n : ℕ) → get_or marks page 0 ≡ suc n → get_or after page 0 ≡ suc n

    lead : (e : ℕ) → e ≡ held_entry bytes (8 * z) → leads_to_free tree.start marks e ≡ true → Step (set marks (table_of tree.start e / 4096) level)
    lead e same h =
        let start = tree.start in
        let f = table_of start e / 4096 in
        let b = both (eqb e (table_entry start (table_of start e))) (free_page marks (table_of start e)) h in
        let whole = table-whole start e placed.start-aligned in
        let is : held_entry bytes (8 * z) ≡ table_entry start (4096 * f) =
        sym same ∙ eqb-true e (table_entry start (table_of start e)) b.0 ∙ ap (table_entry start) whole in
        let none = eqb-true (get_or marks f 1) 0 b.1 in
        let inside = free-inside marks f none in
        let free : get_or marks f 0 ≡ 0 = get_or_default marks f 0 1 inside ∙ none in
        record {
          good = marked f is free inside;
          stays = λ page n m. other-mark marks f level page (λ same. let m' : get_or marks f 0 ≡ suc n = rw same at m in omega arith) ∙ m;
        }

    entry-step : (mark_entry tree.start level (held_entry bytes (8 * z)) marks).0 ≡ true
        → Step (mark_entry tree.start level (held_entry bytes (8 * z)) marks).1
    unfolding mark_entry
    entry-step = go (not (present e) || maps_page level e) refl (leads_to_free tree.start marks e) refl
      where
        e : ℕ
        e = held_entry bytes (8 * z)

        ended : (p m : Bool) → (not p || m) ≡ true → (p && not m) ≡ false
        ended true true h = refl
        ended true false h = sym h
        ended false m h = refl

        go : (a : Bool) → (not (present e) || maps_page level e) ≡ a → (b : Bool) → leads_to_free tree.start marks e ≡ b
            → (if◌then◌else◌ {A = Marked} a (true, marks) (if b then (true, set marks (table_of tree.start e / 4096) level) else (false, marks))).0 ≡ true
            → Step (if◌then◌else◌ {A = Marked} a (true, marks) (if b then (true, set marks (table_of tree.start e / 4096) level) else (false, marks))).1
        go true k b l h = record { good = passes (ended (present e) (maps_page level e) k); stays = λ page n m. m }
        go false k true l h = lead e refl l
        go false k false l h = absurd (contradicts refl h)

  -- so many entries of a table
  entries-step : (level k z page : ℕ) (marks : List ℕ) → Good (Seen level z) marks → get_or marks page 0 ≡ suc level
      → ((4096 * page ≡ tree.top → ⊥) → empty_table bytes (4096 * page) ≡ false) → 512 * page ≤ z → z + k ≤ 512 * page + 512
      → (mark_entries bytes tree.start level k (8 * z) marks).0 ≡ true
      → Good (Seen level (z + k)) (mark_entries bytes tree.start level k (8 * z) marks).1
  unfolding mark_entries
  entries-step level zero z page marks g mark full from to h = let same : z + 0 ≡ z = omega arith in rw same g
  entries-step level (suc k) z page marks g mark full from to h =
      let here : z / 512 ≡ page = omega arith in
      let next : 8 * z + 8 ≡ 8 * suc z = omega arith in
      let one = mark_entry tree.start level (held_entry bytes (8 * z)) marks in
      let good = then-good one (mark_entries bytes tree.start level k (8 * z + 8)) h in
      let step = entry-step level z marks g (rw here mark) (rw here full) good.0 in
      let rest : (mark_entries bytes tree.start level k (8 * suc z) one.1).0 ≡ true =
      rw (← next) (ap (λ (m : Marked). m.0) (sym good.1) ∙ h) in
      let after = entries-step level k (suc z) page one.1 step.good (step.stays page level mark) full (omega arith) (omega arith) rest in
      let sum : z + suc k ≡ suc z + k = omega arith in
      rw (good.1, next, sum) after

  -- a page, if it is a table of the level
  table_step : (level page : ℕ) (marks : List ℕ) → Good (Seen level (512 * page)) marks → (mark_table bytes tree level page marks).0 ≡ true
      → Good (Seen level (512 * (page + 1))) (mark_table bytes tree level page marks).1
  unfolding mark_table
  table_step level page marks g =
      go (eqb (get_or marks page 0) (suc level)) refl (not (eqb (4096 * page) tree.top) && empty_table bytes (4096 * page)) refl
    where
      next : 512 * (page + 1) ≡ 512 * page + 512
      next = omega arith

      place : 4096 * page ≡ 8 * (512 * page)
      place = omega arith

      none : eqb (get_or marks page 0) (suc level) ≡ false → (x n : ℕ) → Seen level (512 * (page + 1)) x n → get_or marks (x / 512) 0 ≡ suc n
          → Seen level (512 * page) x n
      none e x n (inl s) m = inl s
      none e x n (inr s) m = inr (s.0, by (dec_le (512 * page) x))
        where
          by : Dec (512 * page ≤ x) → x < 512 * page
          by (yes from) =
              let here : x / 512 ≡ page = omega (arith, s.1) in
              let m' : get_or marks page 0 ≡ suc n = rw here at m in
              absurd (eqb-false (get_or marks page 0) (suc level) e (m' ∙ ap suc s.0))
          by (no before) = omega arith

      full : (not (eqb (4096 * page) tree.top) && empty_table bytes (4096 * page)) ≡ false → (4096 * page ≡ tree.top → ⊥)
          → empty_table bytes (4096 * page) ≡ false
      full k top = rw (ne_eqb (4096 * page) tree.top top) at k

      go : (a : Bool) → eqb (get_or marks page 0) (suc level) ≡ a → (b : Bool)
          → (not (eqb (4096 * page) tree.top) && empty_table bytes (4096 * page)) ≡ b
          → (if◌then◌else◌ {A = Marked} (not a) (true, marks) (if b then (false, marks) else mark_entries bytes tree.start level 512 (4096 * page) marks)).0 ≡ true
          → Good (Seen level (512 * (page + 1)))
          (if◌then◌else◌ {A = Marked} (not a) (true, marks) (if b then (false, marks) else mark_entries bytes tree.start level 512 (4096 * page) marks)).1
      go false e b k h = fewer (Seen level (512 * page)) (Seen level (512 * (page + 1))) marks (none e) g
      go true e true k h = absurd (contradicts refl h)
      go true e false k h =
          rw (next, place)
          (entries-step level 512 (512 * page) page marks g (eqb-true (get_or marks page 0) (suc level) e) (λ top. full k top) (omega arith) (omega arith) (rw place at h))

  -- so many pages
  level-step : (level k page : ℕ) (marks : List ℕ) → Good (Seen level (512 * page)) marks → (mark_level bytes tree level k page marks).0 ≡ true
      → Good (Seen level (512 * (page + k))) (mark_level bytes tree level k page marks).1
  unfolding mark_level
  level-step level zero page marks g h = let same : page + 0 ≡ page = omega arith in rw same g
  level-step level (suc k) page marks g h =
      let good = then-good (mark_table bytes tree level page marks) (mark_level bytes tree level k (page + 1)) h in
      let rest : (mark_level bytes tree level k (page + 1) (mark_table bytes tree level page marks).1).0 ≡ true =
      ap (λ (m : Marked). m.0) (sym good.1) ∙ h in
      let sum : page + suc k ≡ page + 1 + k = omega arith in
      rw (good.1, sum) (level-step level k (page + 1) (mark_table bytes tree level page marks).1 (table_step level page marks g good.0) rest)

  -- so many levels, the last ones
  levels-step : (k : ℕ) (marks : List ℕ) → Good (From k) marks → (mark_levels bytes tree k marks).0 ≡ true
      → Good (From 0) (mark_levels bytes tree k marks).1
  unfolding mark_levels
  levels-step zero marks g h = g
  levels-step (suc k) marks g h =
      let one = mark_level bytes tree k (length marks) 0 marks in
      let good = then-good one (mark_levels bytes tree k) h in
      let rest : (mark_levels bytes tree k one.1).0 ≡ true = ap (λ (m : Marked). m.0) (sym good.1) ∙ h in
      let level = level-step k (length marks) 0 marks (fewer (From (suc k)) (Seen k (512 * 0)) marks begins g) good.0 in
      let all : length one.1 ≡ length marks = level.sized ∙ sym g.sized in
      rw good.1
      (levels-step k one.1 (fewer (Seen k (512 * (0 + length marks))) (From k) one.1 (ends one.1 all) level) rest)
    where
      begins : (x n : ℕ) → Seen k (512 * 0) x n → get_or marks (x / 512) 0 ≡ suc n → From (suc k) x n
      begins x n (inl s) m = s
      begins x n (inr s) m = absurd (omega (arith, s.1))

      ends : (after : List ℕ) → length after ≡ length marks → (x n : ℕ) → From k x n → get_or after (x / 512) 0 ≡ suc n
          → Seen k (512 * (0 + length marks)) x n
      ends after same x n s m = by (dec_le n k)
        where
          by : Dec (n ≤ k) → Seen k (512 * (0 + length marks)) x n
          by (yes low) = let inside = marked-inside after (x / 512) m in inr (omega arith, omega arith)
          by (no high) = inl (omega arith)

  first : free_page (replicate pages 0) tree.top ≡ true → Good (From (tree.below + 1)) (top_alone tree pages)
  first h =
      record {
        sized = length-set (replicate pages 0) (tree.top / 4096) (tree.below + 1) ∙ length-replicate pages 0;
        top-marked = get_or-set_same (replicate pages 0) (tree.top / 4096) (tree.below + 1) 0 inside;
        from = λ page. 0;
        leads = λ x n s m l. absurd (high x n s m);
        filled = λ page n s m top. absurd (high (512 * page) n s (let here : 512 * page / 512 ≡ page = omega arith in rw here m));
      }
    where
      inside : tree.top / 4096 < length {A = ℕ} (replicate pages 0)
      inside = free-inside (replicate pages 0) (tree.top / 4096) (eqb-true (get_or (replicate pages 0) (tree.top / 4096) 1) 0 h)

      high : (x n : ℕ) → tree.below + 1 ≤ n → get_or (top_alone tree pages) (x / 512) 0 ≡ suc n → ⊥
      high x n s m = let t = top-alone tree pages (x / 512) n (rw (length-replicate {A = ℕ} pages 0) at inside) m in omega (arith, t.1)

  all-good : (mark_all bytes tree pages).0 ≡ true → Good (From 0) (mark_all bytes tree pages).1
  unfolding mark_all
  all-good = go (free_page (replicate pages 0) tree.top) refl
    where
      go : (b : Bool) → free_page (replicate pages 0) tree.top ≡ b
          → (if b then mark_levels bytes tree (tree.below + 1) (top_alone tree pages) else (false, replicate pages 0)).0 ≡ true
          → Good (From 0) (if b then mark_levels bytes tree (tree.below + 1) (top_alone tree pages) else (false, replicate pages 0)).1
      go true e h = levels-step (tree.below + 1) (top_alone tree pages) (first e) h
      go false e h = absurd (contradicts refl h)

pub marked-as-built : MarkedAsBuilt
marked-as-built bytes tree pages placed sized h =
    let g = all-good bytes tree pages placed h in
    record {
      placed = rw g.sized placed;
      sized = rw g.sized sized;
      top-marked = g.top-marked;
      from = g.from;
      leads = λ n below m l. g.leads n below (omega arith) m l;
    }

pub marked-none-empty : MarkedNoneEmpty
marked-none-empty bytes tree pages placed h page below m top = (all-good bytes tree pages placed h).filled page below (omega arith) m top
