-- The three changes that a map and an unmap are made of: an entry that leads nowhere is stored over another such, a table is made, and an
-- empty table is released. Each keeps the tables as built here; the first changes the pages at the addresses whose way comes to its
-- entry, the others change none.
use Prim.Native.Nat.{ℕ, zero, suc, ◌+◌, ◌-◌, ◌*◌, ◌/◌, ◌%◌, ◌^◌, ◌<◌, ◌≤◌}
use mathlib.Core.Bool.{Bool, true, false, not, ◌&&◌}
use mathlib.Core.Path.{◌≡◌, refl, ap, sym, ◌∙◌, subst}
use mathlib.Core.List.{List}
use mathlib.Core.Logic.{◌⊎◌, inl, inr}
use native.Mathlib.Decide.{dec_le, ℕ_discrete}
use native.Mathlib.Omega.{arith}
use native.Mathlib.Nat.{div-one}
use borrow.Author.Tests.{ne_eqb, eq-eqb}
use lib.Dec.{eqb}
use lib.ListN.{length, get_or, set, length-set}
use lib.Seq.{get_or-set_same, get_or-set_other}
use Rattle.image.specs.Bits.{bits}
use Rattle.std.specs.Prelude.{if◌then◌else◌}
use Rattle.image.specs.Memory.{with_word}
use Rattle.tables.specs.Tables.{held_entry, present, table_entry, table_of, words_zeroed}
use Rattle.tables.specs.Way.{way_to}
use Rattle.tables.specs.declared.Tree.{Tree}
use Rattle.leaves.specs.Leaves.{none, leaf, leaf_over}
use Rattle.leaves.specs.WellBuilt.{leads_on, Leads, WellBuilt}
use Rattle.leaves.proofs.Addresses.{above, index, number, index-small, above-next, above-split, placed, table-back}
use Rattle.leaves.proofs.Entries.{length-stored, entry_kept, entry-stored, length-zeroed, zeroed-elsewhere, zeroed-there}
use Rattle.leaves.proofs.Passes.{Passes, onward, entry_on, no-page, end_at, end_over, marked-inside, leads-deep, goes_on, stops, way-here, way_down, led-to, passed-mark, one_way, passing-too, passing-still, same_end, leaf-in}

-- nothing present leads on
pub absent-ends : (n e : ℕ) → present e ≡ false → leads_on n e ≡ false
absent-ends n e h = rw h

pub zero-absent : present 0 ≡ false
unfolding bits
zero-absent = refl

-- no page where the entry isn't present, nor over a table whose entry isn't
none_here : (bytes : List ℕ) (start q n page : ℕ) → present (entry_on bytes q page n) ≡ false
    → end_at (way_to bytes start q 0 n (4096 * page)) ≡ no-page
none_here bytes start q n page h =
    rw (way-here bytes start q 0 n page (stops 0 n (entry_on bytes q page n) (absent-ends n (entry_on bytes q page n) h)), placed q page n, h)

none_below : (bytes : List ℕ) (start q n page f : ℕ) → leads_on (suc n) (entry_on bytes q page (suc n)) ≡ true
    → table_of start (entry_on bytes q page (suc n)) ≡ 4096 * f → present (entry_on bytes q f n) ≡ false
    → end_at (way_to bytes start q 0 (suc n) (4096 * page)) ≡ no-page
none_below bytes start q n page f leads down h =
    ap end_at (way_down bytes start q 0 n page (goes_on 0 n (entry_on bytes q page (suc n)) (omega arith) leads) ∙ ap (way_to bytes start q 0 n) down)
    ∙ none_here bytes start q n f h

pub contradicts : {b : Bool} → b ≡ false → b ≡ true → ⊥
contradicts f t = let z : ◌≡◌ {A = Bool} true false = sym t ∙ f in let y : ◌≡◌ {A = ℕ} 0 1 = cc in omega arith

-- an entry elsewhere stays
pub other-kept : (bytes : List ℕ) (x word y : ℕ) → (y ≡ x → ⊥) → held_entry (with_word bytes (8 * x) word) (8 * y) ≡ held_entry bytes (8 * y)
other-kept bytes x word y apart = go (dec_le y x)
  where
    go : Dec (y ≤ x) → held_entry (with_word bytes (8 * x) word) (8 * y) ≡ held_entry bytes (8 * y)
    go (yes h) = entry_kept bytes (8 * x) word (8 * y) (inl (omega (arith, apart)))
    go (no h) = entry_kept bytes (8 * x) word (8 * y) (inr (omega arith))

module _ (bytes marks : List ℕ) (tree : Tree) (w : WellBuilt bytes marks tree) (x level : ℕ) (mark : get_or marks (x / 512) 0 ≡ suc level) where
  pub in-region : 8 * x + 8 ≤ length bytes
  in-region = let h = marked-inside marks (x / 512) mark in omega (arith, w.sized)

  -- an entry that leads nowhere over another such
  module _ (word : ℕ) (fits : word < 2 ^ 64) (was : leads_on level (held_entry bytes (8 * x)) ≡ false) (is : leads_on level word ≡ false) where
    pub stored-built : WellBuilt (with_word bytes (8 * x) word) marks tree
    stored-built =
        record {
          placed = w.placed;
          sized = length-stored bytes (8 * x) word ∙ w.sized;
          top-marked = w.top-marked;
          from = w.from;
          leads = led;
        }
      where
        led : (y n : ℕ) → get_or marks (y / 512) 0 ≡ suc n → leads_on n (held_entry (with_word bytes (8 * x) word) (8 * y)) ≡ true
            → Leads tree marks w.from y n (held_entry (with_word bytes (8 * x) word) (8 * y))
        led y n m h = go (ℕ_discrete y x)
          where
            go : Dec (y ≡ x) → Leads tree marks w.from y n (held_entry (with_word bytes (8 * x) word) (8 * y))
            go (yes same) =
                let e : held_entry (with_word bytes (8 * x) word) (8 * y) ≡ word = rw same (entry-stored bytes (8 * x) word in-region fits) in
                let m' : get_or marks (x / 512) 0 ≡ suc n = rw same at m in
                let deep : n ≡ level = omega arith in
                absurd (contradicts is (rw (e, deep) at h))
            go (no apart) =
                let e = other-kept bytes x word y apart in
                rw e (w.leads y n m (rw e at h))

    still : (q : ℕ) {n page : ℕ} → level ≤ n → Passes bytes tree q n page → Passes (with_word bytes (8 * x) word) tree q n page
    still =
        passing-still bytes marks tree w (with_word bytes (8 * x) word) level
        (λ y n less m. other-kept bytes x word y (λ same. let m' : get_or marks (x / 512) 0 ≡ suc n = rw same at m in omega arith))

    pub stored-still : (q : ℕ) {page : ℕ} → Passes bytes tree q level page → Passes (with_word bytes (8 * x) word) tree q level page
    stored-still q p = still q (omega arith) p

    -- on the way to a place
    module _ (place page : ℕ) (passes : Passes bytes tree place level page) (here : number place page level ≡ x) where
      pub stored_here : (q : ℕ) → above q level ≡ above place level
          → leaf_over (with_word bytes (8 * x) word) tree q ≡ (if present word then leaf level word else none)
      stored_here q same =
          let upper : above q (suc level) ≡ above place (suc level) = rw (above-next q level, above-next place level, same) in
          let i : index q level ≡ index place level =
          omega (arith, above-split q level, above-split place level, index-small q level, index-small place level) in
          let e : entry_on (with_word bytes (8 * x) word) q page level ≡ word = rw (i, here) (entry-stored bytes (8 * x) word in-region fits) in
          leaf-in (with_word bytes (8 * x) word) tree q (still q (omega arith) (passing-too bytes tree place q upper passes)) (rw e is) ∙ rw e

      pub stored-elsewhere : place < 2 ^ (12 + 9 * (tree.below + 1)) → (q : ℕ) → q < 2 ^ (12 + 9 * (tree.below + 1))
          → (above q level ≡ above place level → ⊥) → end_over (with_word bytes (8 * x) word) tree q ≡ end_over bytes tree q
      stored-elsewhere hp q hq apart =
          same_end bytes marks tree w (with_word bytes (8 * x) word) q
          (λ n p on. inl (other-kept bytes x word (number q p n) (λ same. apart (agree n p on same))))
        where
          agree : (n p : ℕ) → Passes bytes tree q n p → number q p n ≡ x → above q level ≡ above place level
          agree n p on same =
              let is-page : p ≡ page = omega (arith, index-small q n, index-small place level) in
              let i : index q n ≡ index place level = omega (arith, index-small q n, index-small place level) in
              let m = passed-mark bytes marks tree w q on in
              let m' = passed-mark bytes marks tree w place passes in
              let m'' : get_or marks page 0 ≡ suc n = rw is-page at m in
              let deep : n ≡ level = omega arith in
              let on' : Passes bytes tree q level page =
              subst (λ (k : ℕ). Passes bytes tree q k page) deep (subst (λ (u : ℕ). Passes bytes tree q n u) is-page on) in
              let a = one_way bytes marks tree w q place hq hp on' passes in
              let i' : index q level ≡ index place level = rw deep at i in
              above-split q level ∙ rw (a, i') (sym (above-split place level))

-- the mark of another page stays
pub other-mark : (marks : List ℕ) (f level page : ℕ) → (page ≡ f → ⊥) → get_or (set marks f level) page 0 ≡ get_or marks page 0
other-mark marks f level page apart = get_or-set_other marks f page level 0 apart

-- an entry of a table leads on: bits 1:0 are set, bit 7 isn't
pub table-leads : (start page level : ℕ) → start % 4096 ≡ 0 → 0 < level → leads_on level (table_entry start (4096 * page)) ≡ true
unfolding bits
table-leads start page level aligned deep =
    let two : table_entry start (4096 * page) % 4 ≡ 3 = omega arith in
    let low : table_entry start (4096 * page) / 2 ^ 0 % 2 ^ 2 ≡ 3 = rw (div-one (table_entry start (4096 * page))) two in
    let whole : table_entry start (4096 * page) / 128 ≡ 2 * (16 * (start / 4096 + page)) = omega arith in
    let seven : table_entry start (4096 * page) / 2 ^ 7 % 2 ^ 1 ≡ 0 = rw whole (omega arith) in
    rw (low, ne_eqb level 0 (λ h. omega arith), seven) (go (eqb level 1))
  where
    go : (t : Bool) → not (t && false) ≡ true
    go true = refl
    go false = refl

-- a table is made in a free page
module _ (bytes marks : List ℕ) (tree : Tree) (w : WellBuilt bytes marks tree) (x level f : ℕ) (mark : get_or marks (x / 512) 0 ≡ suc level)
    (deep : 0 < level) (there : f < length marks) (free : get_or marks f 0 ≡ 0) (was : present (held_entry bytes (8 * x)) ≡ false) where
  abbrev cleared : List ℕ
  cleared = words_zeroed 512 bytes (4096 * f)

  abbrev made : List ℕ
  made = with_word cleared (8 * x) (table_entry tree.start (4096 * f))

  not_free : (y n : ℕ) → get_or marks (y / 512) 0 ≡ suc n → y / 512 ≡ f → ⊥
  not_free y n m same = let m' : get_or marks f 0 ≡ suc n = rw same at m in omega arith

  made-sized : length made ≡ 4096 * length marks
  made-sized = length-stored cleared (8 * x) (table_entry tree.start (4096 * f)) ∙ length-zeroed 512 bytes (4096 * f) ∙ w.sized

  pub made-here : held_entry made (8 * x) ≡ table_entry tree.start (4096 * f)
  made-here =
      let h = marked-inside marks (x / 512) mark in
      entry-stored cleared (8 * x) (table_entry tree.start (4096 * f)) (rw (length-zeroed 512 bytes (4096 * f)) (omega (arith, w.sized)))
      (omega (arith, w.placed.fits))

  made-in-it : (y : ℕ) → y / 512 ≡ f → held_entry made (8 * y) ≡ 0
  made-in-it y in-it =
      let place : 8 * y ≡ 4096 * f + 8 * (y % 512) = omega arith in
      other-kept cleared x (table_entry tree.start (4096 * f)) y (λ same. not_free x level mark (rw same at in-it))
      ∙ rw place (zeroed-there 512 bytes (4096 * f) (y % 512) (omega (arith, w.sized)) (omega arith))

  pub made_other : (y : ℕ) → (y ≡ x → ⊥) → (y / 512 ≡ f → ⊥) → held_entry made (8 * y) ≡ held_entry bytes (8 * y)
  made_other y apart outside = other-kept cleared x (table_entry tree.start (4096 * f)) y apart ∙ go (dec_le y (512 * f))
    where
      go : Dec (y ≤ 512 * f) → held_entry cleared (8 * y) ≡ held_entry bytes (8 * y)
      go (yes h) = zeroed-elsewhere 512 bytes (4096 * f) (8 * y) (inl (omega (arith, outside)))
      go (no h) = zeroed-elsewhere 512 bytes (4096 * f) (8 * y) (inr (omega (arith, outside)))

  abbrev from' : ℕ → ℕ
  from' page = if eqb page f then x else w.from page

  pub made-built : WellBuilt made (set marks f level) tree
  made-built =
      record {
        placed = rw (length-set marks f level) w.placed;
        sized = rw (length-set marks f level) made-sized;
        top-marked = top;
        from = from';
        leads = led;
      }
    where
      top : get_or (set marks f level) (tree.top / 4096) 0 ≡ tree.below + 1
      top = other-mark marks f level (tree.top / 4096) (λ same. let m = w.top-marked in let m' : get_or marks f 0 ≡ tree.below + 1 = rw same at m in omega arith) ∙ w.top-marked

      led : (y n : ℕ) → get_or (set marks f level) (y / 512) 0 ≡ suc n → leads_on n (held_entry made (8 * y)) ≡ true
          → Leads tree (set marks f level) from' y n (held_entry made (8 * y))
      led y n m h = go (ℕ_discrete (y / 512) f) (ℕ_discrete y x)
        where
          go : Dec (y / 512 ≡ f) → Dec (y ≡ x) → Leads tree (set marks f level) from' y n (held_entry made (8 * y))
          go (yes in-it) d =
              let gone : leads_on n (held_entry made (8 * y)) ≡ false = rw (made-in-it y in-it) (absent-ends n 0 zero-absent) in
              absurd (contradicts gone h)
          go (no outside) (yes same) =
              let m' : get_or marks (y / 512) 0 ≡ suc n = sym (other-mark marks f level (y / 512) outside) ∙ m in
              let m'' : get_or marks (x / 512) 0 ≡ suc n = rw same at m' in
              let n-is : level ≡ n = omega arith in
              record {
                page = f;
                entry = rw same made-here;
                level = get_or-set_same marks f level 0 there ∙ n-is;
                alone = rw (eq-eqb f f refl) (sym same);
              }
          go (no outside) (no apart) =
              let m' : get_or marks (y / 512) 0 ≡ suc n = sym (other-mark marks f level (y / 512) outside) ∙ m in
              let e = made_other y apart outside in
              let l = w.leads y n m' (rw e at h) in
              let n-deep : 0 < n = leads-deep n (held_entry bytes (8 * y)) (rw e at h) in
              let not_f : l.page ≡ f → ⊥ = λ same. (let k = l.level in let k' : get_or marks f 0 ≡ n = rw same at k in omega arith) in
              record {
                page = l.page;
                entry = e ∙ l.entry;
                level = other-mark marks f level l.page not_f ∙ l.level;
                alone = rw (ne_eqb l.page f not_f) l.alone;
              }

  pub made-leads : leads_on level (held_entry made (8 * x)) ≡ true
  made-leads = rw made-here (table-leads tree.start f level w.placed.start-aligned deep)

  made-down : table_of tree.start (held_entry made (8 * x)) ≡ 4096 * f
  made-down = rw made-here (table-back tree.start f w.placed.start-aligned (omega (arith, w.placed.fits)))

  pub made-absent : (q n : ℕ) → present (entry_on made q f n) ≡ false
  made-absent q n = rw (made-in-it (number q f n) (omega (arith, index-small q n))) zero-absent

  pub made-end : (q : ℕ) → end_over made tree q ≡ end_over bytes tree q
  made-end q = same_end bytes marks tree w made q (λ n page p. go n page p (ℕ_discrete (number q page n) x))
    where
      SameAt : (n page : ℕ) → Type 0
      SameAt n page = end_at (way_to made tree.start q 0 n (4096 * page)) ≡ end_at (way_to bytes tree.start q 0 n (4096 * page))

      both-none : (n page : ℕ) → level ≡ suc n → number q page (suc n) ≡ x → SameAt (suc n) page
      both-none n page is here =
          none_below made tree.start q n page f (rw (here, ← is) made-leads) (rw here made-down) (made-absent q n)
          ∙ sym (none_here bytes tree.start q (suc n) page (rw here was))

      page-is : (n page : ℕ) → number q page n / 512 ≡ page
      page-is n page = omega (arith, index-small q n)

      go : (n page : ℕ) → Passes bytes tree q n page → Dec (number q page n ≡ x) → (entry_on made q page n ≡ entry_on bytes q page n) ⊎ SameAt n page
      go n page p (no apart) =
          inl (made_other (number q page n) apart
          (not_free (number q page n) n (rw (page-is n page) (passed-mark bytes marks tree w q p))))
      go zero page p (yes here) =
          let m = passed-mark bytes marks tree w q p in
          let m' : get_or marks (x / 512) 0 ≡ 1 = rw (← here, page-is 0 page) m in
          absurd (omega arith)
      go (suc n) page p (yes here) =
          let m = passed-mark bytes marks tree w q p in
          let m' : get_or marks (x / 512) 0 ≡ suc (suc n) = rw (← here, page-is (suc n) page) m in
          inr (both-none n page (omega arith) here)

  -- and the way to a place goes on in it
  pub made-passes : (place page n : ℕ) → level ≡ suc n → Passes bytes tree place level page → number place page level ≡ x → Passes made tree place n f
  made-passes place page n is passes here =
      let p : Passes made tree place level page =
      passing-still bytes marks tree w made level
      (λ y k less m. made_other y (λ same. let m' : get_or marks (x / 512) 0 ≡ suc k = rw same at m in omega arith) (not_free y k m)) place (omega arith) passes in
      onward {page = f} page (subst (λ (k : ℕ). Passes made tree place k page) is p) (rw (← is, here) made-leads) (rw (← is, here) made-down)

-- an empty table is released
module _ (bytes marks : List ℕ) (tree : Tree) (w : WellBuilt bytes marks tree) (x level f : ℕ) (mark : get_or marks (x / 512) 0 ≡ suc level)
    (leads : leads_on level (held_entry bytes (8 * x)) ≡ true) (down : table_of tree.start (held_entry bytes (8 * x)) ≡ 4096 * f)
    (low : level ≤ tree.below) (empty : (y : ℕ) → y / 512 ≡ f → present (held_entry bytes (8 * y)) ≡ false) where
  abbrev freed : List ℕ
  freed = with_word bytes (8 * x) 0

  deep : 0 < level
  deep = leads-deep level (held_entry bytes (8 * x)) leads

  same-page : (w.leads x level mark leads).page ≡ f
  same-page = let h = led-to bytes marks tree w x level mark leads (w.leads x level mark leads) in omega (arith, sym h ∙ down)

  f-level : get_or marks f 0 ≡ level
  f-level = rw (← same-page) (w.leads x level mark leads).level

  f-from : w.from f ≡ x
  f-from = rw (← same-page) (w.leads x level mark leads).alone

  pub f-inside : f < length marks
  f-inside = marked-inside marks f {n = level - 1} (f-level ∙ omega (arith, deep))

  freed-here : held_entry freed (8 * x) ≡ 0
  freed-here =
      let h = marked-inside marks (x / 512) mark in
      entry-stored bytes (8 * x) 0 (omega (arith, w.sized)) (omega arith)

  pub freed-built : WellBuilt freed (set marks f 0) tree
  freed-built =
      record {
        placed = rw (length-set marks f 0) w.placed;
        sized = rw (length-set marks f 0) (length-stored bytes (8 * x) 0 ∙ w.sized);
        top-marked = top;
        from = w.from;
        leads = led;
      }
    where
      top : get_or (set marks f 0) (tree.top / 4096) 0 ≡ tree.below + 1
      top = other-mark marks f 0 (tree.top / 4096) (λ same. let m = w.top-marked in let m' : get_or marks f 0 ≡ tree.below + 1 = rw same at m in omega (arith, f-level, m')) ∙ w.top-marked

      led : (y n : ℕ) → get_or (set marks f 0) (y / 512) 0 ≡ suc n → leads_on n (held_entry freed (8 * y)) ≡ true
          → Leads tree (set marks f 0) w.from y n (held_entry freed (8 * y))
      led y n m h = go (ℕ_discrete (y / 512) f) (ℕ_discrete y x)
        where
          go : Dec (y / 512 ≡ f) → Dec (y ≡ x) → Leads tree (set marks f 0) w.from y n (held_entry freed (8 * y))
          go (yes in-it) d =
              let m' : get_or (set marks f 0) f 0 ≡ suc n = rw in-it at m in
              let z = get_or-set_same marks f 0 0 f-inside in
              absurd (omega arith)
          go (no outside) (yes same) =
              let gone : leads_on n (held_entry freed (8 * y)) ≡ false = rw (same, freed-here) (absent-ends n 0 zero-absent) in
              absurd (contradicts gone h)
          go (no outside) (no apart) =
              let m' : get_or marks (y / 512) 0 ≡ suc n = sym (other-mark marks f 0 (y / 512) outside) ∙ m in
              let e = other-kept bytes x 0 y apart in
              let l = w.leads y n m' (rw e at h) in
              let not_f : l.page ≡ f → ⊥ = λ same. apart (sym l.alone ∙ ap w.from same ∙ f-from) in
              record {
                page = l.page;
                entry = e ∙ l.entry;
                level = other-mark marks f 0 l.page not_f ∙ l.level;
                alone = l.alone;
              }

  pub freed-end : (q : ℕ) → end_over freed tree q ≡ end_over bytes tree q
  freed-end q = same_end bytes marks tree w freed q (λ n page p. go n page p (ℕ_discrete (number q page n) x))
    where
      SameAt : (n page : ℕ) → Type 0
      SameAt n page = end_at (way_to freed tree.start q 0 n (4096 * page)) ≡ end_at (way_to bytes tree.start q 0 n (4096 * page))

      page-is : (n page : ℕ) → number q page n / 512 ≡ page
      page-is n page = omega (arith, index-small q n)

      go : (n page : ℕ) → Passes bytes tree q n page → Dec (number q page n ≡ x) → (entry_on freed q page n ≡ entry_on bytes q page n) ⊎ SameAt n page
      go n page p (no apart) = inl (other-kept bytes x 0 (number q page n) apart)
      go zero page p (yes here) =
          let m = passed-mark bytes marks tree w q p in
          let m' : get_or marks (x / 512) 0 ≡ 1 = rw (← here, page-is 0 page) m in
          absurd (omega (arith, deep))
      go (suc n) page p (yes here) =
          let m = passed-mark bytes marks tree w q p in
          let m' : get_or marks (x / 512) 0 ≡ suc (suc n) = rw (← here, page-is (suc n) page) m in
          let is : level ≡ suc n = omega arith in
          inr
          (none_here freed tree.start q (suc n) page (rw (here, freed-here) zero-absent)
          ∙ sym (none_below bytes tree.start q n page f (rw (here, ← is) leads) (rw here down) (empty (number q f n) (page-is n f))))

  pub freed-passes : (q : ℕ) {page : ℕ} → Passes bytes tree q level page → Passes freed tree q level page
  freed-passes q p =
      passing-still bytes marks tree w freed level
      (λ y n less m. other-kept bytes x 0 y (λ same. let m' : get_or marks (x / 512) 0 ≡ suc n = rw same at m in omega arith)) q (omega arith) p
