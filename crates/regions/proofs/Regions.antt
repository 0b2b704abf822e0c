-- Laws of the region of an address: every address of a region has it, it lies in the span of its table, and only the address bits below
-- that span tell it.
use Prim.Native.Nat.{ℕ, zero, suc, ◌+◌, ◌-◌, ◌*◌, ◌/◌, ◌%◌, ◌^◌, ◌≤◌, ◌<◌}
use mathlib.Core.Bool.{Bool, true, false}
use mathlib.Core.Path.{◌≡◌, refl, ap, sym, ◌∙◌, subst}
use native.Mathlib.Omega.{arith}
use lib.Dec.{lit≤}
use lib.Pow.{field, mod-mod-pow}
use Rattle.std.specs.Prelude.{if◌then◌else◌}
use Rattle.image.specs.Bits.{in_place}
use Rattle.image.proofs.Fields.{in-place-lt}
use Rattle.image.specs.Memory.{Memory, Fetched, missing, found, entry, on_fetch}
use Rattle.registers.specs.declared.Registers.{Registers}
use Rattle.dma.specs.InterruptRange.{span_at}
use Rattle.dma.specs.Walk.{Step, done, down, on_step, place_in, step_over}
use Rattle.dma.proofs.Steps.{index_of}
use Rattle.translation.specs.Completion.{Completion, entry_step, entry_over}
use Rattle.translation.specs.Completion as completion
use Rattle.translation.specs.declared.Rights.{Rights}
use Rattle.translation.proofs.Entries.{step-cases, page-low}
use Rattle.translation.proofs.Pages.{same_place}
use Rattle.regions.specs.Region.{fault, Region, ended, region_step, region_in}

pub span-suc : (n : ℕ) → span_at (suc n) ≡ 2 ^ (12 + 9 * n)
span-suc n = let less : suc n - 1 ≡ n = omega arith in rw less

pub ended-level : (level : ℕ) (above : Rights) (c : Completion) → (ended level above c).level ≡ level
ended-level level above (completion.page frame of rights) = refl
ended-level level above completion.empty = refl
ended-level level above (completion.fault reason fpd) = refl

-- a page that a level ends with
pub page-reached : (registers : Registers) (address : ℕ) (m : Memory) (n table : ℕ) (above : Rights) {frame level : ℕ} {rights : Rights}
    → done (completion.page frame level rights) ≡ entry_over registers address false m n table above
    → completion.Reachable (completion.page frame level rights) × (level ≡ suc n)
unfolding step_over
page-reached registers address m n table above {frame} {level} {rights} = by (entry 1 m (place_in address table n))
  where
    Is : Type 0
    Is = completion.Reachable (completion.page frame level rights) × (level ≡ suc n)

    by : (f : Fetched)
        → done (completion.page frame level rights)
        ≡ on_fetch f (done (completion.fault 0x07 false)) (entry_step registers false (suc n) (place_in address table n) above)
        → Is
    by missing = λ h. let z : ◌≡◌ {A = ℕ} 0 1 = cc in absurd (omega arith)
    by (found e) =
        step-cases registers false (suc n) (place_in address table n) above e (λ x. done (completion.page frame level rights) ≡ x → Is)
        (λ none h. let z : ◌≡◌ {A = ℕ} 0 1 = cc in absurd (omega arith))
        (λ any set h. let z : ◌≡◌ {A = ℕ} 0 1 = cc in absurd (omega arith))
        (λ any free none h. let z : ◌≡◌ {A = ℕ} 0 1 = cc in absurd (omega arith))
        (λ any free left leaf h.
        let is : frame ≡ in_place e 51 12 = cc in
        let at : level ≡ suc n = cc in
        ((rw is (in-place-lt e 51 12 (lit≤ tt)), omega arith, rw at (page-low registers (suc n) above e any free left leaf)), at))
        (λ any free left more h. let z : ◌≡◌ {A = ℕ} 0 1 = cc in absurd (omega arith))

module _ (registers : Registers) (m : Memory) (outside : (table : ℕ) → Bool) where
  abbrev region : (address level table : ℕ) → Rights → Region
  region = region_in registers m outside

  -- what the entry at a place makes of the walk
  abbrev step_at : (n : ℕ) → Rights → (place : ℕ) → Step Rights Completion
  step_at n above place =
      on_fetch (entry 1 m place) (done (completion.fault 0x07 false)) (entry_step registers false (suc n) place above)

  abbrev rest : (address n : ℕ) → Rights → Step Rights Completion → Region
  rest address n above step = on_step step (ended (suc n) above) (region address n)

  abbrev all : (n : ℕ) → Rights → Region
  all n above = record { level = suc (suc n); what = fault 0x07; rights = above }

  pub first : (address n table : ℕ) (above : Rights)
      → region address (suc n) table above ≡ (if outside table then all n above else rest address n above (step_at n above (place_in address table n)))
  unfolding region_in region_step step_over
  first address n table above = by (outside table)
    where
      on : (step : Step Rights Completion)
          → on_step (on_step step (λ c. done (ended (suc n) above c)) down) (λ r. r) (region address n) ≡ rest address n above step
      on (done c) = refl
      on (down next t) = refl

      by : (o : Bool)
          → on_step (if o then done (all n above) else on_step (step_at n above (place_in address table n)) (λ c. done (ended (suc n) above c)) down) (λ r. r)
          (region address n)
          ≡ (if o then all n above else rest address n above (step_at n above (place_in address table n)))
      by true = refl
      by false = on (step_at n above (place_in address table n))

  -- a region is an entry's span below a table, or all of the table's
  abbrev Within : (level : ℕ) → Region → Type 0
  Within level r = (0 < r.level) × (r.level ≤ suc level)

  abbrev Below : (n : ℕ) → Region → Type 0
  Below n r = (0 < r.level) × (r.level ≤ suc n)

  ends-below : (n : ℕ) (above : Rights) (c : Completion) → Below n (ended (suc n) above c)
  ends-below n above c = rw (ended-level (suc n) above c) (omega arith, omega arith)

  -- what a step ends with or leads to is below it, where all that it leads to is
  rest_below : (n : ℕ) (above : Rights) (address : ℕ)
      → ((next : ℕ) (t : Rights) → Within n (region address n next t))
      → (step : Step Rights Completion) → Below n (rest address n above step)
  rest_below n above address ih (done c) = ends-below n above c
  rest_below n above address ih (down next t) = ih next t

  pub within : (address level table : ℕ) (above : Rights) → Within level (region address level table above)
  unfolding region_in
  within address zero table above = (omega arith, omega arith)
  within address (suc n) table above = rw (first address n table above) (by (outside table) (within address n))
    where
      by : (o : Bool) → ((next : ℕ) (t : Rights) → Within n (region address n next t))
          → Within (suc n) (if o then all n above else rest address n above (step_at n above (place_in address table n)))
      by true ih = (omega arith, omega arith)
      by false ih = let b = rest_below n above address ih (step_at n above (place_in address table n)) in (b.0, omega arith)

  -- every address of a region has it
  pub same-region : (x y level table : ℕ) (above : Rights)
      → x / span_at (region x level table above).level ≡ y / span_at (region x level table above).level
      → region y level table above ≡ region x level table above
  unfolding region_in
  same-region x y zero table above near = refl
  same-region x y (suc n) table above near =
      rw (first x n table above, first y n table above)
      (by (outside table) (same-region x y n) (subst (λ r. x / span_at r.level ≡ y / span_at r.level) (first x n table above) near))
    where
      Alike : (ry rx : Region) → Type 0
      Alike ry rx = x / span_at rx.level ≡ y / span_at rx.level → ry ≡ rx

      led : ((next : ℕ) (t : Rights) → Alike (region y n next t) (region x n next t))
          → (step : Step Rights Completion) → Alike (rest y n above step) (rest x n above step)
      led ih (done c) = λ near. refl
      led ih (down next t) = ih next t

      by : (o : Bool) → ((next : ℕ) (t : Rights) → Alike (region y n next t) (region x n next t))
          → Alike (if o then all n above else rest y n above (step_at n above (place_in y table n)))
          (if o then all n above else rest x n above (step_at n above (place_in x table n)))
      by true ih = λ near. refl
      by false ih = λ near.
          let b = rest_below n above x (within x n) (step_at n above (place_in x table n)) in
          let place = same_place x y table n _ b.0 b.1 near in
          ap (λ (p : ℕ). rest y n above (step_at n above p)) (sym place) ∙ led ih (step_at n above (place_in x table n)) near

  -- only the bits below a table's span tell the region in it
  pub low_bits : (x y level table : ℕ) (above : Rights) → x % 2 ^ (12 + 9 * level) ≡ y % 2 ^ (12 + 9 * level)
      → region x level table above ≡ region y level table above
  unfolding region_in
  low_bits x y zero table above same = refl
  low_bits x y (suc n) table above same =
      rw (first x n table above, first y n table above) (by (outside table) (λ next t. low_bits x y n next t lower))
    where
      width : 12 + 9 * suc n ≡ 9 + (12 + 9 * n)
      width = omega arith

      same' : x % 2 ^ (9 + (12 + 9 * n)) ≡ y % 2 ^ (9 + (12 + 9 * n))
      same' = subst (λ (k : ℕ). x % 2 ^ k ≡ y % 2 ^ k) width same

      lower : x % 2 ^ (12 + 9 * n) ≡ y % 2 ^ (12 + 9 * n)
      lower =
          sym (mod-mod-pow x 9 (12 + 9 * n)) ∙ ap (λ (k : ℕ). k % 2 ^ (12 + 9 * n)) same' ∙ mod-mod-pow y 9 (12 + 9 * n)

      index : x / 2 ^ (12 + 9 * n) % 512 ≡ y / 2 ^ (12 + 9 * n) % 512
      index = sym (field x 9 (12 + 9 * n)) ∙ ap (λ (k : ℕ). k / 2 ^ (12 + 9 * n)) same' ∙ field y 9 (12 + 9 * n)

      place : place_in x table n ≡ place_in y table n
      place = ap (λ (i : ℕ). table + 8 * i) (sym (index_of x n) ∙ index ∙ index_of y n)

      led : ((next : ℕ) (t : Rights) → region x n next t ≡ region y n next t)
          → (step : Step Rights Completion) → rest x n above step ≡ rest y n above step
      led ih (done c) = refl
      led ih (down next t) = ih next t

      by : (o : Bool) → ((next : ℕ) (t : Rights) → region x n next t ≡ region y n next t)
          → (if o then all n above else rest x n above (step_at n above (place_in x table n)))
          ≡ (if o then all n above else rest y n above (step_at n above (place_in y table n)))
      by true ih = refl
      by false ih = led ih (step_at n above (place_in x table n)) ∙ ap (λ (p : ℕ). rest y n above (step_at n above p)) place

  -- where a step leads on, the table isn't outside, and its entry leads on
  down_step : (address n table : ℕ) (above : Rights) {next : ℕ} {t : Rights} → down next t ≡ region_step registers m outside address n table above
      → (outside table ≡ false) × (down next t ≡ entry_over registers address false m n table above)
  unfolding region_step
  down_step address n table above {next} {t} told = by (outside table) refl told
    where
      on : (step : Step Rights Completion) → down next t ≡ on_step step (λ c. done (ended (suc n) above c)) down → down next t ≡ step
      on (done c) h = let z : ◌≡◌ {A = ℕ} 0 1 = cc in absurd (omega arith)
      on (down next' t') h = let i : next ≡ next' = cc in let j : t ≡ t' = cc in cc

      by : (o : Bool) → outside table ≡ o
          → down next t ≡ (if o then done (all n above) else on_step (entry_over registers address false m n table above) (λ c. done (ended (suc n) above c)) down)
          → (outside table ≡ false) × (down next t ≡ entry_over registers address false m n table above)
      by true is h = let z : ◌≡◌ {A = ℕ} 0 1 = cc in absurd (omega arith)
      by false is h = (is, on (entry_over registers address false m n table above) h)

  -- it leads on for every address below its entry
  pub led_on : (address n table : ℕ) (above : Rights) {next : ℕ} {t : Rights}
      → down next t ≡ region_step registers m outside address n table above
      → (x : ℕ) → address / 2 ^ (12 + 9 * n) ≡ x / 2 ^ (12 + 9 * n)
      → region x (suc n) table above ≡ region x n next t
  unfolding step_over
  led_on address n table above {next} {t} told x near =
      let is = down_step address n table above told in
      first x n table above
      ∙ rw is.0
      (ap (λ (p : ℕ). rest x n above (step_at n above p)) (sym (same_place address x table n (suc n) (omega arith) (omega arith)
      (rw (span-suc n) near)))
      ∙ ap (rest x n above) (sym is.1))

  -- the end of a walk
  pub end-here : (address n table : ℕ) (above : Rights) {r : Region} → done r ≡ region_step registers m outside address n table above
      → r ≡ region address (suc n) table above
  unfolding region_in
  end-here address n table above told = rw (← told)

  -- a level by its table and its entry
  module _ (address n table : ℕ) (above : Rights) where
    abbrev here : Step Rights Region
    here = region_step registers m outside address n table above

    one : suc n ≡ n + 1
    one = omega arith

    pub step-outside : outside table ≡ true → done (record { level = n + 2; what = fault 0x07; rights = above }) ≡ here
    unfolding region_step
    step-outside is =
        let two : n + 2 ≡ suc (suc n) = omega arith in
        rw (is, two)

    module _ (inside : outside table ≡ false) where
      pub step-done : {c : Completion} → done c ≡ entry_over registers address false m n table above → done (ended (n + 1) above c) ≡ here
      unfolding region_step
      step-done {c} told = rw (inside, ← told, one)

      pub step-page : {frame of : ℕ} {rights : Rights} {r : Region}
          → done (completion.page frame of rights) ≡ entry_over registers address false m n table above
          → r ≡ ended of above (completion.page frame of rights) → done r ≡ here
      step-page {frame} {of} {rights} told is =
          let at = (page-reached registers address m n table above told).1 ∙ one in
          ap done (is ∙ ap (λ (l : ℕ). ended l above (completion.page frame of rights)) at) ∙ step-done told

      pub step_down : {next : ℕ} {t : Rights} → down next t ≡ entry_over registers address false m n table above → down next t ≡ here
      unfolding region_step
      step_down told = rw (inside, ← told)

  -- the walk after it
  module _ (address level table : ℕ) (above : Rights) (more : 0 < level) where
    whole : suc (level - 1) ≡ level
    whole = omega arith

    pub ended_at : {r : Region} → done r ≡ region_step registers m outside address (level - 1) table above → r ≡ region address level table above
    ended_at told = end-here address (level - 1) table above told ∙ ap (λ (l : ℕ). region address l table above) whole

    pub led-at : {next : ℕ} {t : Rights} → down next t ≡ region_step registers m outside address (level - 1) table above
        → (x : ℕ) → address / 2 ^ (12 + 9 * (level - 1)) ≡ x / 2 ^ (12 + 9 * (level - 1))
        → region x (level - 1) next t ≡ region x level table above
    led-at told x near =
        sym (led_on address (level - 1) table above told x near) ∙ ap (λ (l : ℕ). region x l table above) whole
