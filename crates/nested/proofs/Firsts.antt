-- What a first-level entry's step says, told as a step of the walk, and where it leads.
use Prim.Native.Nat.{ℕ, suc, ◌-◌, ◌<◌, ◌≤◌}
use mathlib.Core.Bool.{Bool, true, false, not}
use mathlib.Core.List.{List, [], ◌∷◌, ◌++◌, map}
use mathlib.Core.Path.{◌≡◌, refl, ap, ◌∙◌, subst}
use native.Mathlib.Omega.{arith}
use Rattle.image.specs.Bits.{bit}
use Rattle.std.specs.Prelude.{if◌then◌else◌, Ok}
use Rattle.image.specs.EntryKind.{first_level_entry}
use Rattle.image.specs.Memory.{Memory}
use Rattle.image.specs.Place.{Place, entry_at, last_tried}
use Rattle.image.specs.Rules.{Rules, run}
use Rattle.image.proofs.Choices.{otherwise}
use Rattle.dma.specs.Page.{host_address, leaf_at}
use Rattle.dma.specs.Walk.{Step, done, down, place_in}
use Rattle.dma.proofs.Stepped.{more-levels}
use Rattle.pasid.specs.declared.ScalableRegisters.{ScalableRegisters}
use Rattle.pasid.specs.declared.table.PasidEntry.{PasidEntry}
use Rattle.flags.specs.Flags.{flag}
use Rattle.first.specs.First.{FirstStep, down as down_to, page, fault as stop, on_first, first_flags, first_reserved, flag_clear, not_snooped, user_denied, write_denied, first_step}
use Rattle.nested.specs.Pages.{Pages, reached, fault, FirstHanded, first_handed, entry_flags, no_first_entry, locate, walk_step, first_rules}
use Rattle.nested.specs.Way.{Located, located, lost}
use Rattle.nested.specs.Answers.{LevelGrows}
use Rattle.nested.specs.Positions.{entry_over}
use Rattle.nested.specs.declared.level.Level.{Level}
use Rattle.nested.specs.declared.level.Level.TheVariants as level
use Rattle.nested.proofs.Nested.{no-entry}
use Rattle.nested.proofs.Ways.{way_over, tried_over, leads-by, lost-over, lost-tried, fetched-over, found-tried, ended-way, onward-way, ended-way-at, onward-way-at}

-- no flags
pub nothing : (l : List ℕ) → l ≡ l ++ []
nothing [] = refl
nothing (x ∷ l) = ap (λ (t : List ℕ). x ∷ t) (nothing l)

-- the flags of an entry, one by one
pub one_by_one : (p : PasidEntry) (dirty : Bool) (place : ℕ) (l : List ℕ)
    → ((l ++ (flag place 5 ∷ [])) ++ (if dirty then flag place 6 ∷ [] else [])) ++ (if p.eafe then flag place 10 ∷ [] else [])
    ≡ l ++ map (flag place) (first_flags p dirty true)
one_by_one p dirty place l = by dirty p.eafe
  where
    together : (a b c : List ℕ) → (a ++ b) ++ c ≡ a ++ (b ++ c)
    together [] b c = refl
    together (x ∷ a) b c = ap (λ (t : List ℕ). x ∷ t) (together a b c)

    by : (d x : Bool)
        → ((l ++ (flag place 5 ∷ [])) ++ (if d then flag place 6 ∷ [] else [])) ++ (if x then flag place 10 ∷ [] else [])
        ≡ l ++ map (flag place) (5 ∷ (if d then 6 ∷ [] else []) ++ (if x then 10 ∷ [] else []))
    by true true = together (l ++ (flag place 5 ∷ [])) _ _ ∙ together l _ _
    by true false = together (l ++ (flag place 5 ∷ [])) _ _ ∙ together l _ _
    by false true = together (l ++ (flag place 5 ∷ [])) _ _ ∙ together l _ _
    by false false = together (l ++ (flag place 5 ∷ [])) _ _ ∙ together l _ _

module _ (r : ScalableRegisters) (p : PasidEntry) (address : ℕ) (write : Bool) (level place : ℕ) (s : FirstHanded) (e : ℕ) where
  told : {x : FirstStep} → x ≡ first_step r p write s.writable level e
      → on_first x (λ table. down table (first_handed false (s.flags ++ entry_flags p write false place e)))
      (λ frame level. done (reached frame level (host_address level frame address) (s.flags ++ entry_flags p write true place e)))
      (λ reason fpd. done (fault reason fpd))
      ≡ walk_step r p address write level place s e
  told h =
      ap
      (λ x. on_first x (λ table. down table (first_handed false (s.flags ++ entry_flags p write false place e)))
      (λ frame level. done (reached frame level (host_address level frame address) (s.flags ++ entry_flags p write true place e)))
      (λ reason fpd. done (fault reason fpd)))
      h

  pub down-told : {table : ℕ} → down_to table ≡ first_step r p write s.writable level e
      → down table (first_handed false (s.flags ++ entry_flags p write false place e)) ≡ walk_step r p address write level place s e
  down-told h = told h

  pub page-told : {frame of : ℕ} → page frame of ≡ first_step r p write s.writable level e
      → done (reached frame of (host_address of frame address) (s.flags ++ entry_flags p write true place e)) ≡ walk_step r p address write level place s e
  page-told h = told h

  pub fault-told : {reason : ℕ} {fpd : Bool} → stop reason fpd ≡ first_step r p write s.writable level e
      → done (fault reason fpd) ≡ walk_step r p address write level place s e
  fault-told h = told h

-- a step that leads down stops nothing
not_stopped : {table reason : ℕ} {fpd : Bool} → down_to table ≡ stop reason fpd → ⊥
not_stopped h = let z : ◌≡◌ {A = ℕ} 0 1 = cc in omega arith

-- it is the step of an entry that is no page's
leads : (r : ScalableRegisters) (p : PasidEntry) (write writable : Bool) (level e : ℕ) {table : ℕ}
    → down_to table ≡ first_step r p write writable level e → leaf_at level e ≡ false
unfolding first_step
leads r p write writable level e {table} h =
    let clear = flag_clear p write (leaf_at level e) e in
    let h1 = otherwise (not (bit e 0)) not_stopped h in
    let h2 = otherwise (first_reserved r p.nxe level e) not_stopped h1.1 in
    let h3 = otherwise (not_snooped r p clear) not_stopped h2.1 in
    let h4 = otherwise (user_denied p e) not_stopped h3.1 in
    let h5 = otherwise (write_denied p write writable clear e) not_stopped h4.1 in
    (otherwise (leaf_at level e) (λ x. let z : ◌≡◌ {A = ℕ} 0 1 = cc in omega arith) h5.1).0

-- and an entry of level 1 is a page's
pub above-one : (r : ScalableRegisters) (p : PasidEntry) (write writable : Bool) (level e : ℕ) {table : ℕ} → 0 < level
    → down_to table ≡ first_step r p write writable level e → 1 < level
above-one r p write writable level e some h =
    let this : level ≡ suc (level - 1) = omega arith in
    let below = more-levels (level - 1) e (subst (λ (l : ℕ). leaf_at l e ≡ false) this (leads r p write writable level e h)) in
    omega (arith, below)

-- a level of the first level over a memory, and the last entry that it tries
module _ (r : ScalableRegisters) (p : PasidEntry) (address : ℕ) (write : Bool) where
  abbrev pub level_over : Memory → (below table : ℕ) → FirstHanded → Step FirstHanded Pages
  level_over = way_over first_level_entry address (locate r p) (no_first_entry p) (walk_step r p address write)

  abbrev pub level_tried : (before : Place) → Memory → (below table : ℕ) → FirstHanded → Place
  level_tried = tried_over first_level_entry address (locate r p) (no_first_entry p) (walk_step r p address write)

module _ (r : ScalableRegisters) (p : PasidEntry) (address : ℕ) (write : Bool) (m : Memory) (n table : ℕ) (s : FirstHanded) where
  step-leads : (place : ℕ) (t : FirstHanded) (e next : ℕ) (u : FirstHanded) → down next u ≡ walk_step r p address write (suc n) place t e → 0 < n
  step-leads place t e next u = by (first_step r p write t.writable (suc n) e) refl
    where
      by : (x : FirstStep) → x ≡ first_step r p write t.writable (suc n) e
          → down next u
          ≡ on_first x (λ table. down table (first_handed false (t.flags ++ entry_flags p write false place e)))
          (λ frame level. done (reached frame level (host_address level frame address) (t.flags ++ entry_flags p write true place e)))
          (λ reason fpd. done (fault reason fpd))
          → 0 < n
      by (down_to to) is h = more-levels n e (leads r p write t.writable (suc n) e is)
      by (page frame level) is h = let z : ◌≡◌ {A = ℕ} 0 1 = cc in absurd (omega arith)
      by (stop reason fpd) is h = let z : ◌≡◌ {A = ℕ} 0 1 = cc in absurd (omega arith)

  -- a level that leads down is not the last
  pub not_last : {next : ℕ} {t : FirstHanded} → down next t ≡ level_over r p address write m n table s → 0 < n
  not_last =
      leads-by first_level_entry address (locate r p) (no_first_entry p) (walk_step r p address write) m n table s (λ next. 0 < n) step-leads

-- one level, by what the way to its entry says
module _ (r : ScalableRegisters) (p : PasidEntry) (address : ℕ) (write : Bool) (m : Memory) (n table : ℕ) (s : FirstHanded) where
  abbrev way : Rules (Located FirstHanded Pages)
  way = locate r p s (place_in address table n)

  pub stopped : {a : Pages} → lost a ≡ run way m → done a ≡ level_over r p address write m n table s
  stopped = lost-over first_level_entry address (locate r p) (no_first_entry p) (walk_step r p address write) m n table s

  pub stopped-at : (before : Place) {here : Place} {a : Pages} → lost a ≡ run way m → here ≡ last_tried before way m
      → here ≡ level_tried r p address write before m n table s
  stopped-at before h there =
      there ∙ lost-tried first_level_entry address (locate r p) (no_first_entry p) (walk_step r p address write) m n table s before h

  module _ {place : ℕ} {t : FirstHanded} (h : located place t ≡ run way m) where
    pub entered : entry_over r p address write m (suc n) place t ≡ level_over r p address write m n table s
    entered = fetched-over first_level_entry address (locate r p) (no_first_entry p) (walk_step r p address write) m n table s h

    pub entered_at : (before : Place) → entry_at place ≡ level_tried r p address write before m n table s
    entered_at = found-tried first_level_entry address (locate r p) (no_first_entry p) (walk_step r p address write) m n table s h

-- the laws of every walk with a way to its entries, at this one
module _ (r : ScalableRegisters) (p : PasidEntry) (address : ℕ) (write : Bool) (m : Memory) (level table : ℕ) (s : FirstHanded) (more : 0 < level) where
  pub ended : {a : Pages} → done a ≡ level_over r p address write m (level - 1) table s → a ≡ run (first_rules r p address write level table s) m
  ended = ended-way first_level_entry address (locate r p) (no_first_entry p) (walk_step r p address write) (no-entry r p) m level table s more

  pub led : {to : ℕ} {t : FirstHanded} → down to t ≡ level_over r p address write m (level - 1) table s
      → run (first_rules r p address write (level - 1) to t) m ≡ run (first_rules r p address write level table s) m
  led = onward-way first_level_entry address (locate r p) (no_first_entry p) (walk_step r p address write) (no-entry r p) m level table s more

  pub ended_at : (before : Place) {here : Place} {a : Pages} → here ≡ level_tried r p address write before m (level - 1) table s
      → done a ≡ level_over r p address write m (level - 1) table s → here ≡ last_tried before (first_rules r p address write level table s) m
  ended_at = ended-way-at first_level_entry address (locate r p) (no_first_entry p) (walk_step r p address write) (no-entry r p) m level table s more

  pub led-at : (before : Place) {here : Place} {to : ℕ} {t : FirstHanded} → here ≡ level_tried r p address write before m (level - 1) table s
      → down to t ≡ level_over r p address write m (level - 1) table s
      → last_tried here (first_rules r p address write (level - 1) to t) m ≡ last_tried before (first_rules r p address write level table s) m
  led-at = onward-way-at first_level_entry address (locate r p) (no_first_entry p) (walk_step r p address write) (no-entry r p) m level table s more

-- the number of flags by a larger bound
pub grows-more : (l : Level) (most most' : ℕ) → most ≤ most' → LevelGrows (Ok l) most → LevelGrows (Ok l) most'
grows-more (level.Down table n) most most' h g = omega (arith, g)
grows-more (level.Page frame of n) most most' h g = omega (arith, g)
