-- The tables that the way to an address passes through, from the top one down: a page by its number in the region.
use Prim.Native.Nat.{ℕ, zero, suc, ◌+◌, ◌-◌, ◌*◌, ◌/◌, ◌^◌, ◌<◌, ◌≤◌}
use mathlib.Core.Bool.{Bool, true, false, not, ◌&&◌, ◌||◌}
use mathlib.Core.Path.{◌≡◌, refl, ap, sym, ◌∙◌, subst}
use mathlib.Core.List.{List}
use mathlib.Core.Logic.{◌⊎◌, inl, inr}
use native.Mathlib.Decide.{dec_le}
use native.Mathlib.Omega.{arith}
use borrow.Author.Tests.{ne_eqb, eq-eqb, eqb-false, not-true}
use lib.Dec.{eqb}
use lib.ListN.{length, get_or, get_or-eq_default}
use Rattle.std.specs.Prelude.{if◌then◌else◌}
use Rattle.image.specs.Place.{Place, no_entry, entry_at}
use Rattle.image.proofs.Choices.{both}
use Rattle.dma.specs.Walk.{place_in}
use Rattle.tables.specs.Tables.{held_entry, present, maps_page, table_of}
use Rattle.tables.specs.Way.{ends, stop_in, way_to, way}
use Rattle.tables.specs.declared.Tree.{Tree}
use Rattle.tables.specs.declared.way.Stop.{Stop}
use Rattle.leaves.specs.Leaves.{Leaf, none, leaf, leaf_at_stop, leaf_over, leaf_place}
use Rattle.leaves.specs.WellBuilt.{leads_on, Leads, WellBuilt}
use Rattle.leaves.proofs.Addresses.{above, index, number, index-small, above-next, above-split, above-all, placed, table-back}

-- the entry on the way in a page that is a table with so many levels below it
abbrev pub entry_on : (bytes : List ℕ) (q page n : ℕ) → ℕ
entry_on bytes q page n = held_entry bytes (8 * number q page n)

pub data Passes (bytes : List ℕ) (tree : Tree) (q : ℕ) : ℕ → ℕ → Type 0 where
  at_top_lem : {n page : ℕ} → n ≡ tree.below → 4096 * page ≡ tree.top → Passes bytes tree q n page
  onward : {n page : ℕ} (upper : ℕ) → Passes bytes tree q (suc n) upper → leads_on (suc n) (entry_on bytes q upper (suc n)) ≡ true
      → table_of tree.start (entry_on bytes q upper (suc n)) ≡ 4096 * page → Passes bytes tree q n page

-- the end of a way at a page
pub data End : Type 0 where
  no-page : End
  at-page : Stop → End

abbrev pub end_at : Stop → End
end_at stop = if present stop.entry then at-page stop else no-page

unfoldable pub end_over : (bytes : List ℕ) → Tree → (q : ℕ) → End
end_over bytes tree q = end_at (way bytes tree q 0)

-- it has the page, and the place of its entry
abbrev leaf_of : End → Leaf
leaf_of no-page = none
leaf_of (at-page stop) = leaf stop.below stop.entry

abbrev place_of : End → Place
place_of no-page = no_entry
place_of (at-page stop) = entry_at stop.at

module _ (bytes bytes' : List ℕ) (tree : Tree) (q : ℕ) (same : end_over bytes' tree q ≡ end_over bytes tree q) where
  pub leaf-same : leaf_over bytes' tree q ≡ leaf_over bytes tree q
  unfolding leaf_over end_over
  leaf-same = sym (by (way bytes' tree q 0)) ∙ ap leaf_of same ∙ by (way bytes tree q 0)
    where
      by : (stop : Stop) → leaf_of (end_at stop) ≡ leaf_at_stop stop
      by stop = go (present stop.entry)
        where
          go : (t : Bool) → leaf_of (if t then at-page stop else no-page) ≡ (if t then leaf stop.below stop.entry else none)
          go true = refl
          go false = refl

  pub place_same : leaf_place bytes' tree q ≡ leaf_place bytes tree q
  unfolding leaf_place end_over
  place_same = sym (by (way bytes' tree q 0)) ∙ ap place_of same ∙ by (way bytes tree q 0)
    where
      by : (stop : Stop) → place_of (end_at stop) ≡ (if present stop.entry then entry_at stop.at else no_entry)
      by stop = go (present stop.entry)
        where
          go : (t : Bool) → place_of (if t then at-page stop else no-page) ≡ (if t then entry_at stop.at else no_entry)
          go true = refl
          go false = refl

-- a page with a mark is one of the region
pub marked-inside : (marks : List ℕ) (page : ℕ) {n : ℕ} → get_or marks page 0 ≡ suc n → page < length marks
marked-inside marks page h = go (dec_le (length marks) page)
  where
    go : Dec (length marks ≤ page) → page < length marks
    go (yes out) = let none = get_or-eq_default marks 0 out in absurd (omega arith)
    go (no in-it) = omega arith

-- an entry that leads on ends no way that goes deeper, and one that doesn't ends every way
pub goes_on : (last n e : ℕ) → last ≤ n → leads_on (suc n) e ≡ true → ends last (suc n) e ≡ false
goes_on last n e less h =
    let b = both (present e) (not (maps_page (suc n) e)) h in
    rw (ne_eqb (suc n) last (λ same. omega arith), b.0, not-true (maps_page (suc n) e) b.1)

pub stops : (last n e : ℕ) → leads_on n e ≡ false → ends last n e ≡ true
stops last n e h = go (eqb n last) (present e) (maps_page n e) h
  where
    go : (a p m : Bool) → (p && not m) ≡ false → (a || not p || m) ≡ true
    go true p m h = refl
    go false true true h = refl
    go false true false h = let z : ◌≡◌ {A = ℕ} 0 1 = cc in absurd (omega arith)
    go false false m h = refl

pub ends_last : (last n e : ℕ) → n ≡ last → ends last n e ≡ true
ends_last last n e h = rw (eq-eqb n last h)

pub ends-false : (last n e : ℕ) → ends last n e ≡ false → (n ≡ last → ⊥) × (leads_on n e ≡ true)
ends-false last n e h = let b = go (eqb n last) (present e) (maps_page n e) h in (eqb-false n last b.0, b.1)
  where
    go : (a p m : Bool) → (a || not p || m) ≡ false → (a ≡ false) × ((p && not m) ≡ true)
    go true p m h = let z : ◌≡◌ {A = ℕ} 0 1 = cc in absurd (omega arith)
    go false true true h = let z : ◌≡◌ {A = ℕ} 0 1 = cc in absurd (omega arith)
    go false true false h = (refl, refl)
    go false false m h = let z : ◌≡◌ {A = ℕ} 0 1 = cc in absurd (omega arith)

pub leads-deep : (n e : ℕ) → leads_on n e ≡ true → 0 < n
leads-deep zero e h = let b = both (present e) false h in let z : ◌≡◌ {A = ℕ} 0 1 = cc in absurd (omega arith)
leads-deep (suc n) e h = omega arith

-- the way from a page on, by its entry there
module _ (bytes : List ℕ) (start q last n page : ℕ) where
  pub way-here : ends last n (entry_on bytes q page n) ≡ true → way_to bytes start q last n (4096 * page) ≡ stop_in bytes q n (4096 * page)
  unfolding way_to
  way-here h = go n (rw (← placed q page n) at h)
    where
      go : (n : ℕ) → ends last n (held_entry bytes (place_in q (4096 * page) n)) ≡ true
          → way_to bytes start q last n (4096 * page) ≡ stop_in bytes q n (4096 * page)
      go zero h = refl
      go (suc n) h = rw h

  pub way_down : ends last (suc n) (entry_on bytes q page (suc n)) ≡ false
      → way_to bytes start q last (suc n) (4096 * page) ≡ way_to bytes start q last n (table_of start (entry_on bytes q page (suc n)))
  unfolding way_to
  way_down h = let k = rw (← placed q page (suc n)) at h in rw (k, placed q page (suc n))

-- a way down to a level passes through all the tables above it
pub passing : (bytes : List ℕ) (tree : Tree) (q last : ℕ) {n page : ℕ} → last ≤ n → Passes bytes tree q n page
    → way bytes tree q last ≡ way_to bytes tree.start q last n (4096 * page)
passing bytes tree q last {n} {page} less (at_top_lem level top) = rw (level, top)
passing bytes tree q last {n} {page} less (onward upper p leads down) =
    passing bytes tree q last (omega arith) p
    ∙ way_down bytes tree.start q last n upper (goes_on last n (entry_on bytes q upper (suc n)) less leads)
    ∙ ap (way_to bytes tree.start q last n) down

pub not-over : (bytes : List ℕ) (tree : Tree) (q : ℕ) {n page : ℕ} → Passes bytes tree q n page → n ≤ tree.below
not-over bytes tree q (at_top_lem level top) = omega arith
not-over bytes tree q (onward upper p leads down) = let h = not-over bytes tree q p in omega arith

-- addresses with the same bits over a level pass through the same tables
pub passing-too : (bytes : List ℕ) (tree : Tree) (q r : ℕ) {n page : ℕ} → above r (suc n) ≡ above q (suc n) → Passes bytes tree q n page
    → Passes bytes tree r n page
passing-too bytes tree q r same (at_top_lem level top) = at_top_lem level top
passing-too bytes tree q r {n} {page} same (onward upper p leads down) =
    let i : index r (suc n) ≡ index q (suc n) =
    omega (arith, above-split r (suc n), above-split q (suc n), index-small r (suc n), index-small q (suc n)) in
    let a : above r (suc (suc n)) ≡ above q (suc (suc n)) = rw (above-next r (suc n), above-next q (suc n), same) in
    onward {page = page} upper (passing-too bytes tree q r a p) (rw i leads) (rw i down)

module _ (bytes marks : List ℕ) (tree : Tree) (w : WellBuilt bytes marks tree) where
  -- the table that an entry leads to
  pub led-to : (x n : ℕ) → get_or marks (x / 512) 0 ≡ suc n → (h : leads_on n (held_entry bytes (8 * x)) ≡ true)
      → (l : Leads tree marks w.from x n (held_entry bytes (8 * x))) → table_of tree.start (held_entry bytes (8 * x)) ≡ 4096 * l.page
  led-to x n mark h l =
      let deep : 0 < n = leads-deep n (held_entry bytes (8 * x)) h in
      let there : l.page < length marks = marked-inside marks l.page {n = n - 1} (l.level ∙ omega arith) in
      rw l.entry (table-back tree.start l.page w.placed.start-aligned (omega (arith, w.placed.fits)))

  page-of : (q page n : ℕ) → number q page n / 512 ≡ page
  page-of q page n = omega (arith, index-small q n)

  led : (q upper n : ℕ) → get_or marks upper 0 ≡ suc n → leads_on n (entry_on bytes q upper n) ≡ true
      → Leads tree marks w.from (number q upper n) n (entry_on bytes q upper n)
  led q upper n mark h = w.leads (number q upper n) n (rw (page-of q upper n) mark) h

  -- a table has its level's mark
  pub passed-mark : (q : ℕ) {n page : ℕ} → Passes bytes tree q n page → get_or marks page 0 ≡ suc n
  passed-mark q {n} {page} (at_top_lem level top) =
      let is : page ≡ tree.top / 4096 = omega arith in
      rw is (w.top-marked ∙ omega arith)
  passed-mark q {n} {page} (onward upper p leads down) =
      let mark = passed-mark q p in
      let l = led q upper (suc n) mark leads in
      let same : l.page ≡ page = omega (arith, sym (led-to (number q upper (suc n)) (suc n) (rw (page-of q upper (suc n)) mark) leads l) ∙ down) in
      rw (← same) l.level

  -- and the one entry leads to it
  passed-from : (q upper : ℕ) {n page : ℕ} → Passes bytes tree q (suc n) upper → leads_on (suc n) (entry_on bytes q upper (suc n)) ≡ true
      → table_of tree.start (entry_on bytes q upper (suc n)) ≡ 4096 * page → w.from page ≡ number q upper (suc n)
  passed-from q upper {n} {page} p leads down =
      let mark = passed-mark q p in
      let l = led q upper (suc n) mark leads in
      let same : l.page ≡ page = omega (arith, sym (led-to (number q upper (suc n)) (suc n) (rw (page-of q upper (suc n)) mark) leads l) ∙ down) in
      rw (← same) l.alone

  -- ways that pass through one table have the same address bits over it
  pub one_way : (q r : ℕ) → q < 2 ^ (12 + 9 * (tree.below + 1)) → r < 2 ^ (12 + 9 * (tree.below + 1)) → {n page : ℕ}
      → Passes bytes tree q n page → Passes bytes tree r n page → above q (suc n) ≡ above r (suc n)
  one_way q r hq hr {n} (at_top_lem level top) other =
      above-all q n (rw level hq) ∙ sym (above-all r n (rw level hr))
  one_way q r hq hr {n} (onward upper p leads down) (at_top_lem level top) =
      let h = not-over bytes tree q p in absurd (omega arith)
  one_way q r hq hr {n} (onward upper p leads down) (onward upper' p' leads' down') =
      let one : number q upper (suc n) ≡ number r upper' (suc n) = sym (passed-from q upper p leads down) ∙ passed-from r upper' p' leads' down' in
      let page : upper' ≡ upper = omega (arith, index-small q (suc n), index-small r (suc n)) in
      let i : index q (suc n) ≡ index r (suc n) = omega (arith, index-small q (suc n), index-small r (suc n)) in
      let a = one_way q r hq hr p (subst (λ (u : ℕ). Passes bytes tree r (suc n) u) page p') in
      above-split q (suc n) ∙ rw (a, i) (sym (above-split r (suc n)))

  -- where a way ends it has come to a table
  pub record Arrived (q last : ℕ) (stop : Stop) : Type 0 where
    pub page : ℕ
    pub passes : Passes bytes tree q stop.below page
    pub reached : last ≤ stop.below
    pub is : stop ≡ stop_in bytes q stop.below (4096 * page)

  arrived : (q last n page : ℕ) → last ≤ n → Passes bytes tree q n page → Arrived q last (way_to bytes tree.start q last n (4096 * page))
  arrived q last zero page less p =
      subst (λ (s : Stop). Arrived q last s)
      (sym (way-here bytes tree.start q last 0 page (ends_last last 0 (entry_on bytes q page 0) (omega arith))))
      (record { page = page; passes = p; reached = less; is = refl })
  arrived q last (suc n) page less p = go (ends last (suc n) (entry_on bytes q page (suc n))) refl (λ next. arrived q last n next)
    where
      go : (t : Bool) → ends last (suc n) (entry_on bytes q page (suc n)) ≡ t
          → ((next : ℕ) → last ≤ n → Passes bytes tree q n next → Arrived q last (way_to bytes tree.start q last n (4096 * next)))
          → Arrived q last (way_to bytes tree.start q last (suc n) (4096 * page))
      go true h on =
          subst (λ (s : Stop). Arrived q last s) (sym (way-here bytes tree.start q last (suc n) page h))
          (record { page = page; passes = p; reached = less; is = refl })
      go false h on =
          let b = ends-false last (suc n) (entry_on bytes q page (suc n)) h in
          let deeper : last ≤ n = omega (arith, b.0) in
          let mark = passed-mark q p in
          let l = led q page (suc n) mark b.1 in
          let down = led-to (number q page (suc n)) (suc n) (rw (page-of q page (suc n)) mark) b.1 l in
          subst (λ (s : Stop). Arrived q last s)
          (sym (way_down bytes tree.start q last n page h ∙ ap (way_to bytes tree.start q last n) down))
          (on l.page deeper (onward page p b.1 down))

  top-passed : (q : ℕ) → Passes bytes tree q tree.below (tree.top / 4096)
  top-passed q =
      let top : 4096 * (tree.top / 4096) ≡ tree.top = omega (arith, w.placed.top-aligned) in
      at_top_lem refl top

  pub arrives : (q last : ℕ) → last ≤ tree.below → Arrived q last (way bytes tree q last)
  arrives q last less =
      let top : 4096 * (tree.top / 4096) ≡ tree.top = omega (arith, w.placed.top-aligned) in
      subst (λ (t : ℕ). Arrived q last (way_to bytes tree.start q last tree.below t)) top
      (arrived q last tree.below (tree.top / 4096) less (top-passed q))

  -- Another run of bytes in which, wherever the way to an address passes, either the entry is the same or the end at a page is: then the
  -- way ends at the same page.
  module _ (bytes' : List ℕ) (q : ℕ) where
    abbrev SameHere : (n page : ℕ) → Type 0
    SameHere n page =
        end_at (way_to bytes' tree.start q 0 n (4096 * page)) ≡ end_at (way_to bytes tree.start q 0 n (4096 * page))

    module _ (same : (n page : ℕ) → Passes bytes tree q n page → (entry_on bytes' q page n ≡ entry_on bytes q page n) ⊎ SameHere n page) where
      stop-same : (n page : ℕ) → entry_on bytes' q page n ≡ entry_on bytes q page n → leads_on n (entry_on bytes q page n) ≡ false → SameHere n page
      stop-same n page e h =
          let h' : leads_on n (entry_on bytes' q page n) ≡ false = rw e h in
          rw (way-here bytes tree.start q 0 n page (stops 0 n (entry_on bytes q page n) h), way-here bytes' tree.start q 0 n page (stops 0 n (entry_on bytes' q page n) h'), placed q page n, e)

      follow : (n page : ℕ) → Passes bytes tree q n page → SameHere n page
      follow zero page p = go (same 0 page p) (leads_on 0 (entry_on bytes q page 0)) refl
        where
          go : (entry_on bytes' q page 0 ≡ entry_on bytes q page 0) ⊎ SameHere 0 page → (t : Bool) → leads_on 0 (entry_on bytes q page 0) ≡ t → SameHere 0 page
          go (inr h) t k = h
          go (inl e) false k = stop-same 0 page e k
          go (inl e) true k = let deep = leads-deep 0 (entry_on bytes q page 0) k in absurd (omega arith)
      follow (suc n) page p = go (same (suc n) page p) (leads_on (suc n) (entry_on bytes q page (suc n))) refl (λ next. follow n next)
        where
          go : (entry_on bytes' q page (suc n) ≡ entry_on bytes q page (suc n)) ⊎ SameHere (suc n) page
              → (t : Bool) → leads_on (suc n) (entry_on bytes q page (suc n)) ≡ t → ((next : ℕ) → Passes bytes tree q n next → SameHere n next)
              → SameHere (suc n) page
          go (inr h) t k on = h
          go (inl e) false k on = stop-same (suc n) page e k
          go (inl e) true k on =
              let mark = passed-mark q p in
              let l = led q page (suc n) mark k in
              let down = led-to (number q page (suc n)) (suc n) (rw (page-of q page (suc n)) mark) k l in
              let down' : table_of tree.start (entry_on bytes' q page (suc n)) ≡ 4096 * l.page = rw e down in
              let k' : leads_on (suc n) (entry_on bytes' q page (suc n)) ≡ true = rw e k in
              let further = goes_on 0 n (entry_on bytes q page (suc n)) (omega arith) k in
              let further' = goes_on 0 n (entry_on bytes' q page (suc n)) (omega arith) k' in
              ap end_at (way_down bytes' tree.start q 0 n page further' ∙ ap (way_to bytes' tree.start q 0 n) down')
              ∙ on l.page (onward page p k down)
              ∙ sym (ap end_at (way_down bytes tree.start q 0 n page further ∙ ap (way_to bytes tree.start q 0 n) down))

      pub same_end : end_over bytes' tree q ≡ end_over bytes tree q
      unfolding end_over
      same_end =
          let top : 4096 * (tree.top / 4096) ≡ tree.top = omega (arith, w.placed.top-aligned) in
          subst (λ (t : ℕ). end_at (way_to bytes' tree.start q 0 tree.below t) ≡ end_at (way_to bytes tree.start q 0 tree.below t)) top
          (follow tree.below (tree.top / 4096) (top-passed q))

  -- a way goes on passing where the entries over a level are the same
  pub passing-still : (bytes' : List ℕ) (level : ℕ)
      → ((x n : ℕ) → level < n → get_or marks (x / 512) 0 ≡ suc n → held_entry bytes' (8 * x) ≡ held_entry bytes (8 * x))
      → (q : ℕ) {n page : ℕ} → level ≤ n → Passes bytes tree q n page → Passes bytes' tree q n page
  passing-still bytes' level same q less (at_top_lem level' top) = at_top_lem level' top
  passing-still bytes' level same q {n} {page} less (onward upper p leads down) =
      let e : entry_on bytes' q upper (suc n) ≡ entry_on bytes q upper (suc n) =
      same (number q upper (suc n)) (suc n) (omega arith) (rw (page-of q upper (suc n)) (passed-mark q p)) in
      onward {page = page} upper (passing-still bytes' level same q (omega arith) p) (rw e leads) (rw e down)

-- the page over an address is in the last of the tables that its way passes through
pub leaf-in : (bytes : List ℕ) (tree : Tree) (q : ℕ) {n page : ℕ} → Passes bytes tree q n page → leads_on n (entry_on bytes q page n) ≡ false
    → leaf_over bytes tree q ≡ (if present (entry_on bytes q page n) then leaf n (entry_on bytes q page n) else none)
unfolding leaf_over
leaf-in bytes tree q {n} {page} p h =
    rw (passing bytes tree q 0 (omega arith) p, way-here bytes tree.start q 0 n page (stops 0 n (entry_on bytes q page n) h), placed q page n)
