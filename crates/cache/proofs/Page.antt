-- All addresses of a page go by the same entries: a leaf that one of them reaches, each of them reaches.
use Prim.Native.Nat.{ℕ, zero, suc, ◌+◌, ◌-◌, ◌*◌, ◌/◌, ◌^◌, ◌≤◌, min}
use mathlib.Core.Bool.{Bool, true, false, not}
use mathlib.Core.Path.{◌≡◌, refl, ap, sym, ◌∙◌}
use native.Mathlib.Omega.{arith}
use lib.Dec.{eqb, leb}
use lib.Pow.{shr-shr}
use Rattle.image.specs.Bits.{bits}
use Rattle.image.specs.Check.{Check, stop, go, on_check}
use Rattle.std.specs.Prelude.{if◌then◌else◌}
use Rattle.image.specs.Memory.{Memory, Fetched, missing, found, entry, on_fetch}
use Rattle.image.specs.Rules.{answer, run}
use Rattle.registers.specs.declared.Registers.{Registers}
use Rattle.registers.proofs.Powers.{shifted}
use Rattle.dma.specs.Lookup.{Lookup, context, no_context, on_lookup, lookup_rules}
use Rattle.dma.specs.Page.{page_check, leaf_at}
use Rattle.dma.specs.Translation.{Translation, through, leaf, fault, page_step, page_rules, width_rules, translation_rules}
use Rattle.dma.specs.Walk.{done, down, on_step, place_in, walk_rules}
use Rattle.dma.specs.declared.context.Context.{Context}
use Rattle.dma.proofs.Lookups.{looked-up}
use Rattle.dma.proofs.Steps.{leaf-low}
use Rattle.cache.specs.Held.{page_of}

-- alike above a bit, alike above any higher bit
module _ (a b s : ℕ) (same : a / 2 ^ s ≡ b / 2 ^ s) where
  alike-above : (t : ℕ) → s ≤ t → a / 2 ^ t ≡ b / 2 ^ t
  alike-above t h =
      let sum : t ≡ s + (t - s) = omega arith in
      rw (sum, ← shr-shr a s (t - s), ← shr-shr b s (t - s), same)

  alike-field : (high low : ℕ) → s ≤ low → bits a high low ≡ bits b high low
  unfolding bits
  alike-field high low h = rw (alike-above low h)

  pub alike-test : (t : ℕ) → s ≤ t → leb (2 ^ t) a ≡ leb (2 ^ t) b
  alike-test t h = sym (shifted t a) ∙ ap (λ (n : ℕ). not (eqb n 0)) (alike-above t h) ∙ shifted t b

module _ (registers : Registers) (write : Bool) (m : Memory) (a b frame level : ℕ) (same : page_of level a ≡ page_of level b) where
  pub apart : a / 2 ^ (12 + 9 * (level - 1)) ≡ b / 2 ^ (12 + 9 * (level - 1))
  unfolding page_of
  apart = same

  pub place_same : (table n : ℕ) → level ≤ suc n → place_in b table n ≡ place_in a table n
  place_same table n h =
      ap (λ (i : ℕ). table + 8 * i) (sym (alike-field a b (12 + 9 * (level - 1)) apart (20 + 9 * n) (12 + 9 * n) (omega arith)))

  pub page-walk : (fpd : Bool) (n table : ℕ) → run (page_rules registers a write fpd n table) m ≡ leaf frame level
      → (level ≤ n) × (level ≤ 3) × (run (page_rules registers b write fpd n table) m ≡ leaf frame level)
  unfolding run walk_rules
  page-walk fpd zero table was = let z : ◌≡◌ {A = ℕ} 0 1 = cc in absurd (omega arith)
  page-walk fpd (suc n) table was = at_entry (entry 1 m (place_in a table n)) refl was (page-walk fpd n)
    where
      rest : (address e : ℕ) (c : Check ℕ) (page : Bool) → Translation
      rest address e c page =
          run
          (on_step {S = Unit {0}} (on_check c (λ reason. done (fault reason fpd)) (λ f. if page then done (leaf f (suc n)) else down f tt)) answer
          (walk_rules address (λ s. fault 0x07 fpd) (page_step registers address write fpd) n)) m

      on : (e : ℕ) (c : Check ℕ) (page : Bool) → page_check registers write (suc n) e ≡ c → leaf_at (suc n) e ≡ page
          → rest a e c page ≡ leaf frame level
          → ((next : ℕ) → run (page_rules registers a write fpd n next) m ≡ leaf frame level
          → (level ≤ n) × (level ≤ 3) × (run (page_rules registers b write fpd n next) m ≡ leaf frame level))
          → (level ≤ suc n) × (level ≤ 3) × (rest b e c page ≡ leaf frame level)
      on e (stop reason) page check is_leaf was ih = let z : ◌≡◌ {A = ℕ} 0 1 = cc in absurd (omega arith)
      on e (go f) true check is_leaf was ih =
          let at : suc n ≡ level = cc in
          let few = leaf-low registers write (suc n) e f check is_leaf in
          (omega arith, omega arith, was)
      on e (go f) false check is_leaf was ih =
          let h = ih f was in
          (omega (arith, h.0), h.1, h.2)

      at_entry : (f : Fetched) → entry 1 m (place_in a table n) ≡ f
          → on_fetch f (fault 0x07 fpd) (λ e. rest a e (page_check registers write (suc n) e) (leaf_at (suc n) e)) ≡ leaf frame level
          → ((next : ℕ) → run (page_rules registers a write fpd n next) m ≡ leaf frame level
          → (level ≤ n) × (level ≤ 3) × (run (page_rules registers b write fpd n next) m ≡ leaf frame level))
          → (level ≤ suc n) × (level ≤ 3) × (run (page_rules registers b write fpd (suc n) table) m ≡ leaf frame level)
      at_entry missing told was ih = let z : ◌≡◌ {A = ℕ} 0 1 = cc in absurd (omega arith)
      at_entry (found e) told was ih =
          let h = on e (page_check registers write (suc n) e) (leaf_at (suc n) e) refl refl was ih in
          let there : entry 1 m (place_in b table n) ≡ found e = ap (entry 1 m) (place_same table n h.0) ∙ told in
          (h.0, h.1, rw there h.2)

  pub width-page : (c : Context) → 39 ≤ registers.mgaw → run (width_rules registers a write c) m ≡ leaf frame level
      → (level ≤ 3) × (run (width_rules registers b write c) m ≡ leaf frame level)
  unfolding width_rules run
  width-page c wide was = on (leb (2 ^ min registers.mgaw (12 + 9 * c.levels)) a) refl (eqb c.translation_type 2) refl was
    where
      on : (over : Bool) → leb (2 ^ min registers.mgaw (12 + 9 * c.levels)) a ≡ over → (pass : Bool) → eqb c.translation_type 2 ≡ pass
          → run (if over then answer (fault 0x04 c.fpd) else if pass then answer through else page_rules registers a write c.fpd c.levels c.top) m
          ≡ leaf frame level
          → (level ≤ 3) × (run (width_rules registers b write c) m ≡ leaf frame level)
      on true o pass p was = let z : ◌≡◌ {A = ℕ} 0 1 = cc in absurd (omega arith)
      on false o true p was = let z : ◌≡◌ {A = ℕ} 0 1 = cc in absurd (omega arith)
      on false o false p was =
          let h = page-walk c.fpd c.levels c.top was in
          let within : 12 + 9 * (level - 1) ≤ min registers.mgaw (12 + 9 * c.levels) = omega (arith, h.0, h.1) in
          let o' = sym (alike-test a b (12 + 9 * (level - 1)) apart (min registers.mgaw (12 + 9 * c.levels)) within) ∙ o in
          (h.1, rw (o', p) h.2)

  pub same-page : (source : ℕ) → 39 ≤ registers.mgaw → run (translation_rules registers a write source) m ≡ leaf frame level
      → run (translation_rules registers b write source) m ≡ leaf frame level
  same-page source wide was =
      looked-up registers fault (width_rules registers b write) m source
      ∙ on (run (lookup_rules registers source) m) (sym (looked-up registers fault (width_rules registers a write) m source) ∙ was)
    where
      on : (l : Lookup) → on_lookup l fault (λ c. run (width_rules registers a write c) m) ≡ leaf frame level
          → on_lookup l fault (λ c. run (width_rules registers b write c) m) ≡ leaf frame level
      on (context c) h = (width-page c wide h).1
      on (no_context reason fpd) h = let z : ◌≡◌ {A = ℕ} 0 1 = cc in absurd (omega arith)
