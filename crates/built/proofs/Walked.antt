-- A walk over a memory that shows well-built tables ends with the entry over its address: what the tables map there decides it.
use Prim.Native.Nat.{ℕ, zero, suc, ◌+◌, ◌*◌, ◌/◌, ◌%◌, ◌^◌, ◌<◌}
use mathlib.Core.Bool.{Bool, true, false, not, ◌&&◌}
use mathlib.Core.Path.{◌≡◌, refl, ap, sym, ◌∙◌, subst}
use mathlib.Core.List.{List}
use native.Mathlib.Omega.{arith}
use lib.ListN.{length, get_or}
use Rattle.image.specs.Bits.{bits, in_place}
use Rattle.std.specs.Prelude.{if◌then◌else◌}
use Rattle.image.specs.Memory.{Memory, found, entry}
use Rattle.image.specs.Place.{Place, entry_at, last_tried}
use Rattle.image.specs.Rules.{run}
use Rattle.image.proofs.Same.{one_word}
use Rattle.dma.specs.Walk.{Step, done, down, on_step, place_in, walk_rules, step_over}
use Rattle.dma.proofs.Steps.{index-lt}
use Rattle.dma.proofs.Walks.{walk_step_lem, walk-tried}
use Rattle.tables.specs.Tables.{held_entry, present, maps_page, table_entry, table_of}
use Rattle.tables.specs.Way.{ends, way_to, way}
use Rattle.tables.specs.declared.Tree.{Tree}
use Rattle.tables.specs.declared.way.Stop.{Stop}
use Rattle.leaves.specs.Leaves.{none, leaf, on_leaf, leaf_at_stop, leaf_over}
use Rattle.leaves.proofs.Addresses.{table-back}
use Rattle.leaves.proofs.Passes.{marked-inside, goes_on, stops}
use Rattle.leaves.specs.WellBuilt.{leads_on, WellBuilt}

-- a memory has the words of a region's bytes from a host address on
abbrev pub Shown : Memory → (start : ℕ) (bytes : List ℕ) → Type 0
Shown m start bytes = (n : ℕ) → 8 * n < length bytes → m (start + 8 * n) ≡ found (held_entry bytes (8 * n))

not-false-and : (q : Bool) → (true && not q) ≡ false → q ≡ true
not-false-and true h = refl
not-false-and false h = let z : ◌≡◌ {A = ℕ} 0 1 = cc in absurd (omega arith)

-- a table's address in its entry
pub address-in : (start page : ℕ) → start % 4096 ≡ 0 → start + 4096 * page < 2 ^ 52 → in_place (table_entry start (4096 * page)) 51 12 ≡ start + 4096 * page
unfolding bits
address-in start page aligned below = omega arith

module _ {S A : Type 0} (address : ℕ) (none-there : S → A) (step : (level place : ℕ) → S → (e : ℕ) → Step S A) (m : Memory)
    (bytes marks : List ℕ) (tree : Tree) (well : WellBuilt bytes marks tree) (shown : Shown m tree.start bytes) (s : S)
    (passes : (n place page : ℕ) → page < length marks
    → step (suc (suc n)) place s (table_entry tree.start (4096 * page)) ≡ down (tree.start + 4096 * page) s)
    (absent : A) (denied : (level place e : ℕ) → present e ≡ false → step level place s e ≡ done absent) (page-by : (below e : ℕ) → A)
    (maps : (below place e : ℕ) → present e ≡ true → maps_page below e ≡ true → step (suc below) place s e ≡ done (page-by below e)) where
  abbrev walk : (level table : ℕ) → A
  walk level table = run (walk_rules address none-there step level table s) m

  abbrev tried : (before : Place) (level table : ℕ) → Place
  tried before level table = last_tried before (walk_rules address none-there step level table s) m

  -- what the entry at which the way ends makes of the request
  abbrev answered : (below e : ℕ) → A
  answered below e = on_leaf (if present e then leaf below e else none) absent page-by

  abbrev ended : Stop → A
  ended stop = on_leaf (leaf_at_stop stop) absent page-by

  -- an entry that leads to no table ends the walk
  ends_there : (n place e : ℕ) → (present e ≡ true → maps_page n e ≡ true) → step (suc n) place s e ≡ done (answered n e)
  ends_there n place e page = by (present e) refl
    where
      by : (t : Bool) → present e ≡ t → step (suc n) place s e ≡ done (on_leaf (if t then leaf n e else none) absent page-by)
      by true is = maps n place e is (page is)
      by false is = denied (suc n) place e is

  abbrev way_in : (below page : ℕ) → Stop
  way_in below page = way_to bytes tree.start address 0 below (4096 * page)

  module _ (n page : ℕ) (inside : page < length marks) where
    abbrev number : ℕ
    number = 512 * page + bits address (20 + 9 * n) (12 + 9 * n)

    at-number : place_in address (4096 * page) n ≡ 8 * number
    at-number = omega arith

    of-page : number / 512 ≡ page
    of-page = omega (arith, index-lt address n)

    first : step_over address none-there step m n (tree.start + 4096 * page) s
        ≡ step (suc n) (tree.start + place_in address (4096 * page) n) s (held_entry bytes (place_in address (4096 * page) n))
    unfolding step_over
    first =
        let there : place_in address (tree.start + 4096 * page) n ≡ tree.start + place_in address (4096 * page) n = omega arith in
        let fetched : entry 1 m (tree.start + place_in address (4096 * page) n) ≡ found (held_entry bytes (place_in address (4096 * page) n)) =
        one_word m (tree.start + place_in address (4096 * page) n)
        ∙ ap (λ (k : ℕ). m (tree.start + k)) at-number
        ∙ shown number (omega (arith, index-lt address n, well.sized))
        ∙ ap (λ (k : ℕ). found (held_entry bytes k)) (sym at-number) in
        rw (there, fetched)

    begins : walk (suc n) (tree.start + 4096 * page)
        ≡ on_step (step (suc n) (tree.start + place_in address (4096 * page) n) s (held_entry bytes (place_in address (4096 * page) n))) (λ a. a)
        (λ next t. run (walk_rules address none-there step n next t) m)
    begins =
        walk_step_lem address none-there step m n (tree.start + 4096 * page) s
        ∙ ap (λ (x : Step S A). on_step x (λ a. a) (λ next t. run (walk_rules address none-there step n next t) m)) first

    begins-at : (before : Place) → tried before (suc n) (tree.start + 4096 * page)
        ≡ on_step (step (suc n) (tree.start + place_in address (4096 * page) n) s (held_entry bytes (place_in address (4096 * page) n)))
        (λ a. entry_at (tree.start + place_in address (4096 * page) n))
        (λ next t. last_tried (entry_at (tree.start + place_in address (4096 * page) n)) (walk_rules address none-there step n next t) m)
    begins-at before =
        let there : place_in address (tree.start + 4096 * page) n ≡ tree.start + place_in address (4096 * page) n = omega arith in
        walk-tried address none-there step m before n (tree.start + 4096 * page) s
        ∙ rw (first, there)

  -- the page that the way ends at answers, and the walk stops at its entry
  abbrev Walked : (below page level table : ℕ) → Type 0
  Walked below page level table =
      (walk level table ≡ ended (way_in below page))
      × ((before : Place) → tried before level table ≡ entry_at (tree.start + (way_in below page).at))

  pub walked : (below page : ℕ) → get_or marks page 0 ≡ suc below → Walked below page (suc below) (tree.start + 4096 * page)
  unfolding way_to run walk_rules
  walked zero page mark =
      let at = place_in address (4096 * page) 0 in
      let here = ends_there 0 (tree.start + at) (held_entry bytes at) (λ is. refl) in
      (begins 0 page (marked-inside marks page mark) ∙ rw here, λ before. begins-at 0 page (marked-inside marks page mark) before ∙ rw here)
  walked (suc n) page mark = by (leads_on (suc n) e) refl (walked n)
    where
      inside : page < length marks
      inside = marked-inside marks page mark

      at : ℕ
      at = place_in address (4096 * page) (suc n)

      e : ℕ
      e = held_entry bytes at

      maps-page : leads_on (suc n) e ≡ false → present e ≡ true → maps_page (suc n) e ≡ true
      maps-page h is = not-false-and (maps_page (suc n) e) (rw is at h)

      by : (t : Bool) → leads_on (suc n) e ≡ t
          → ((next : ℕ) → get_or marks next 0 ≡ suc n → Walked n next (suc n) (tree.start + 4096 * next))
          → Walked (suc n) page (suc (suc n)) (tree.start + 4096 * page)
      by false is ih =
          let here : ends 0 (suc n) e ≡ true = stops 0 (suc n) e is in
          let stopped = ends_there (suc n) (tree.start + at) e (maps-page is) in
          (begins (suc n) page inside ∙ rw (here, stopped), λ before. begins-at (suc n) page inside before ∙ rw (here, stopped))
      by true is ih =
          let on : ends 0 (suc n) e ≡ false = goes_on 0 n e (omega arith) is in
          let there = at-number (suc n) page inside in
          let led = well.leads (number (suc n) page inside) (suc n) (ap (λ (k : ℕ). get_or marks k 0) (of-page (suc n) page inside) ∙ mark)
          (subst (λ (k : ℕ). leads_on (suc n) (held_entry bytes k) ≡ true) there is) in
          let next = led.page in
          let next-inside = marked-inside marks next led.level in
          let is-entry : e ≡ table_entry tree.start (4096 * next) = ap (held_entry bytes) there ∙ led.entry in
          let fits = well.placed.fits in
          let table : table_of tree.start e ≡ 4096 * next =
          ap (table_of tree.start) is-entry ∙ table-back tree.start next well.placed.start-aligned (omega (arith, fits, next-inside)) in
          let onward : step (suc (suc n)) (tree.start + at) s e ≡ down (tree.start + 4096 * next) s =
          ap (step (suc (suc n)) (tree.start + at) s) is-entry ∙ passes n (tree.start + at) next next-inside in
          let below = ih next led.level in (
            begins (suc n) page inside ∙ rw (onward, on, table) below.0,
            λ before. begins-at (suc n) page inside before ∙ rw (onward, on, table) (below.1 (entry_at (tree.start + at))),
          )

  -- from the top table, by the page over the address
  pub by-leaf : (walk (suc tree.below) (tree.start + tree.top) ≡ on_leaf (leaf_over bytes tree address) absent page-by)
      × ((before : Place) → tried before (suc tree.below) (tree.start + tree.top) ≡ entry_at (tree.start + (way bytes tree address 0).at))
  unfolding leaf_over
  by-leaf =
      let top : 4096 * (tree.top / 4096) ≡ tree.top = omega (arith, well.placed.top-aligned) in
      subst
      (λ (t : ℕ).
      (walk (suc tree.below) (tree.start + t) ≡ ended (way_to bytes tree.start address 0 tree.below t))
      × ((before : Place) → tried before (suc tree.below) (tree.start + t) ≡ entry_at (tree.start + (way_to bytes tree.start address 0 tree.below t).at)))
      top
      (walked tree.below (tree.top / 4096) (well.top-marked ∙ omega arith))
