-- What is left of a translation, by what a level's entry says of it.
use Prim.Native.Nat.{ℕ, ◌-◌, ◌<◌}
use mathlib.Core.Bool.{Bool, true, false, ◌||◌}
use mathlib.Core.List.{List, []}
use mathlib.Core.Path.{◌≡◌, refl, ap, sym, ◌∙◌}
use native.Mathlib.Omega.{arith}
use borrow.Author.Tests.{eq-eqb, ne_eqb, eqb-true}
use lib.Dec.{eqb}
use Rattle.image.specs.Memory.{Memory}
use Rattle.image.specs.Place.{Place, last_tried}
use Rattle.image.specs.Rules.{Rules, answer, run}
use Rattle.image.proofs.Choices.{above_zero}
use Rattle.image.proofs.Places.{tried-map}
use Rattle.image.proofs.Trees.{Outside, run-map}
use Rattle.dma.specs.Walk.{Step, done, down, on_step, place_in}
use Rattle.pasid.specs.declared.ScalableRegisters.{ScalableRegisters}
use Rattle.pasid.specs.declared.table.PasidEntry.{PasidEntry}
use Rattle.second.specs.Second.{Walked, fault as no_page}
use Rattle.nested.specs.Pages.{Pages, reached, fault, FirstHanded, first_handed, wanted_of_page, to_entry, to_page, intermediate_rules, locate, host_page_rules, first_rules}
use Rattle.nested.specs.Positions.{place_at, wanted_at, kind_rules, rest_rules}
use Rattle.nested.specs.Then.{then_rules}
use Rattle.nested.specs.Way.{lost}
use Rattle.nested.proofs.Firsts.{level_over, level_tried, not_last, ended, led, ended_at, led-at, stopped, stopped-at}
use Rattle.nested.proofs.Forks.{forks-outside, forks-first}
use Rattle.nested.proofs.Nested.{through, through-at}
use Rattle.nested.proofs.Thens.{Ends, run-then, tried_then}

module _ (r : ScalableRegisters) (p : PasidEntry) (address : ℕ) (write : Bool) where
  pub nested : (level : ℕ) → eqb level 0 ≡ false → (eqb level 0 || eqb p.kind 3) ≡ true → p.kind ≡ 3
  nested level q second = eqb-true p.kind 3 (rw q at second)

  -- what comes after the first level's page: nothing, or the page at an intermediate address
  pub page-last : (frame level host : ℕ) (flags : List ℕ) → (p.kind ≡ 3 → ⊥)
      → answer (reached frame level host flags) ≡ host_page_rules r p write (reached frame level host flags)
  unfolding host_page_rules
  page-last frame level host flags other = rw (ne_eqb p.kind 3 other)

  pub page-next : (frame level host : ℕ) (s : FirstHanded) → p.kind ≡ 3
      → rest_rules r p address write 0 host s ≡ host_page_rules r p write (reached frame level host s.flags)
  unfolding host_page_rules rest_rules
  page-next frame level host s is = rw (eq-eqb p.kind 3 is)

  pub fault-last : (reason : ℕ) (fpd : Bool) → answer (fault reason fpd) ≡ host_page_rules r p write (fault reason fpd)
  unfolding host_page_rules
  fault-last reason fpd = refl

  -- by PGTT
  pub second-alone : p.kind ≡ 2 → (flags : List ℕ) → flags ≡ [] → rest_rules r p address write 0 address (first_handed true flags) ≡ kind_rules r p address write
  unfolding rest_rules kind_rules
  second-alone is flags none = rw (eq-eqb p.kind 2 is, none)

  pub first-too : (p.kind ≡ 2 → ⊥) → 0 < p.first_levels → (flags : List ℕ) → flags ≡ []
      → rest_rules r p address write p.first_levels p.first_top (first_handed true flags) ≡ kind_rules r p address write
  unfolding rest_rules kind_rules
  first-too other some flags none =
      let more : p.first_levels ≡ 0 → ⊥ = λ z. omega arith in
      rw (ne_eqb p.kind 2 other, ne_eqb p.first_levels 0 more, none)

  -- the first level, then its page
  module _ (m : Memory) where
    module _ (level at : ℕ) (s : FirstHanded) (more : 0 < level) where
      abbrev first : Rules Pages
      first = first_rules r p address write level at s

      -- a fault of the first level is followed by nothing
      faults : Outside (Ends (λ w. w) (host_page_rules r p write)) first
      unfolding host_page_rules
      faults =
          forks-outside (Ends (λ w. w) (host_page_rules r p write)) _ first
          (forks-first r p p.second_levels (λ three. omega arith) (Ends (λ w. w) (host_page_rules r p write)) (λ top. refl) (λ top. refl) address write level at s)

      both : rest_rules r p address write level at s ≡ then_rules (λ w. w) (host_page_rules r p write) first
      unfolding rest_rules
      both = let some : level ≡ 0 → ⊥ = λ z. omega arith in rw (ne_eqb level 0 some)

      ran : run (rest_rules r p address write level at s) m ≡ run (host_page_rules r p write (run first m)) m
      ran = ap (λ q. run q m) both ∙ run-then (λ w. w) (host_page_rules r p write) first m faults

      tried : (before : Place) → last_tried before (rest_rules r p address write level at s) m
          ≡ last_tried (last_tried before first m) (host_page_rules r p write (run first m)) m
      tried before = ap (λ q. last_tried before q m) both ∙ tried_then (λ w. w) (host_page_rules r p write) before first m faults

    -- it is what the step of its first level leads to
    module _ (level at : ℕ) (s : FirstHanded) (more : 0 < level) where
      abbrev over : Step FirstHanded Pages
      over = level_over r p address write m (level - 1) at s

      abbrev next : Step FirstHanded Pages → Rules Pages
      next x = on_step x (host_page_rules r p write) (rest_rules r p address write (level - 1))

      pub onward : (x : Step FirstHanded Pages) → x ≡ over → run (next x) m ≡ run (rest_rules r p address write level at s) m
      onward (done a) h =
          ap (λ (x : Pages). run (host_page_rules r p write x) m) (ended r p address write m level at s more h) ∙ sym (ran level at s more)
      onward (down to t) h =
          ran (level - 1) to t (not_last r p address write m (level - 1) at s h)
          ∙ ap (λ (x : Pages). run (host_page_rules r p write x) m) (led r p address write m level at s more h)
          ∙ sym (ran level at s more)

      module _ (before : Place) {here : Place} (stop : here ≡ level_tried r p address write before m (level - 1) at s) where
        pub onward-at : (x : Step FirstHanded Pages) → x ≡ over → last_tried here (next x) m ≡ last_tried before (rest_rules r p address write level at s) m
        onward-at (done a) h =
            ap (λ (place : Place). last_tried place (host_page_rules r p write a) m) (ended_at r p address write m level at s more before stop h)
            ∙ ap (λ (x : Pages). last_tried (last_tried before (first_rules r p address write level at s) m) (host_page_rules r p write x) m)
            (ended r p address write m level at s more h)
            ∙ sym (tried level at s more before)
        onward-at (down to t) h =
            tried (level - 1) to t (not_last r p address write m (level - 1) at s h) here
            ∙ ap (λ (place : Place). last_tried place (host_page_rules r p write (run (first_rules r p address write (level - 1) to t) m)) m)
            (led-at r p address write m level at s more before stop h)
            ∙ ap (λ (x : Pages). last_tried (last_tried before (first_rules r p address write level at s) m) (host_page_rules r p write x) m)
            (led r p address write m level at s more h)
            ∙ sym (tried level at s more before)

    -- an entry that isn't found on its way ends it
    module _ (level at : ℕ) (s : FirstHanded) (more : 0 < level) {reason : ℕ} {fpd : Bool}
        (h : lost (fault reason fpd) ≡ run (locate r p s (place_in address at (level - 1))) m) where
      lost-run : fault reason fpd ≡ run (rest_rules r p address write level at s) m
      unfolding host_page_rules run
      lost-run = onward level at s more (done (fault reason fpd)) (stopped r p address write m (level - 1) at s h)

      lost-run-at : (before : Place) {here : Place} → here ≡ last_tried before (locate r p s (place_in address at (level - 1))) m
          → here ≡ last_tried before (rest_rules r p address write level at s) m
      unfolding host_page_rules last_tried
      lost-run-at before there =
          onward-at level at s more before (stopped-at r p address write m (level - 1) at s before h there) (done (fault reason fpd))
          (stopped r p address write m (level - 1) at s h)

    -- through the second level: the page at the end, and an entry in a nested translation
    module _ (level at place : ℕ) (s : FirstHanded) (is : place ≡ place_at address level at) where
      abbrev way : Rules Walked
      way = intermediate_rules r p (wanted_at p write level) place s.flags

      pub page-found : level ≡ 0 → {w : Walked} → w ≡ run way m → to_page place w ≡ run (rest_rules r p address write level at s) m
      unfolding rest_rules place_at wanted_at
      page-found none h =
          let here = rw (eq-eqb level 0 none) at is in
          rw (eq-eqb level 0 none, ← here)
          (ap (to_page place) (rw (eq-eqb level 0 none) at h) ∙ sym (run-map (to_page place) (intermediate_rules r p (wanted_of_page write) place s.flags) m))

      page-found-at : level ≡ 0 → (before : Place) → last_tried before way m ≡ last_tried before (rest_rules r p address write level at s) m
      unfolding rest_rules place_at wanted_at
      page-found-at none before =
          let here = rw (eq-eqb level 0 none) at is in
          rw (eq-eqb level 0 none, ← here) (sym (tried-map (to_page place) before (intermediate_rules r p (wanted_of_page write) place s.flags) m))

      module _ (more : 0 < level) where
        some : level ≡ 0 → ⊥
        some z = omega arith

        pub entry_place : place ≡ place_in address at (level - 1)
        unfolding place_at
        entry_place = rw (ne_eqb level 0 some) at is

        pub entry_found : p.kind ≡ 3 → {w : Walked} → w ≡ run way m
            → to_entry s.top place w ≡ run (locate r p s (place_in address at (level - 1))) m
        unfolding wanted_at
        entry_found nested h =
            ap (to_entry s.top place) (rw (ne_eqb level 0 some) at h) ∙ through r p s place m nested
            ∙ ap (λ (x : ℕ). run (locate r p s x) m) entry_place

        entry-found-at : p.kind ≡ 3 → (before : Place)
            → last_tried before way m ≡ last_tried before (locate r p s (place_in address at (level - 1))) m
        unfolding wanted_at
        entry-found-at nested before =
            rw (ne_eqb level 0 some) (through-at r p s place m nested before ∙ ap (λ (x : ℕ). last_tried before (locate r p s x) m) entry_place)

      -- a fault on it
      module _ (second : (eqb level 0 || eqb p.kind 3) ≡ true) {reason : ℕ} {fpd : Bool} (h : no_page reason fpd ≡ run way m) where
        pub faulted : fault reason fpd ≡ run (rest_rules r p address write level at s) m
        faulted = by (eqb level 0) refl
          where
            by : (t : Bool) → eqb level 0 ≡ t → fault reason fpd ≡ run (rest_rules r p address write level at s) m
            by true q = page-found (eqb-true level 0 q) h
            by false q = let more = above_zero level q in lost-run level at s more (entry_found more (nested level q second) h)

        pub faulted-at : (before : Place) {here : Place} → here ≡ last_tried before way m
            → here ≡ last_tried before (rest_rules r p address write level at s) m
        faulted-at before {here} there = by (eqb level 0) refl
          where
            by : (t : Bool) → eqb level 0 ≡ t → here ≡ last_tried before (rest_rules r p address write level at s) m
            by true q = there ∙ page-found-at (eqb-true level 0 q) before
            by false q =
                let more = above_zero level q in
                let three = nested level q second in
                lost-run-at level at s more (entry_found more three h) before (there ∙ entry-found-at more three before)
