-- All addresses of a page name the same words.
use Prim.Native.Nat.{ℕ, zero, suc, ◌+◌, ◌-◌, ◌*◌, ◌^◌, ◌≤◌, min}
use mathlib.Core.Bool.{Bool, true, false}
use mathlib.Core.List.{List, [], ◌++◌}
use mathlib.Core.Path.{◌≡◌, refl, ap, sym, ◌∙◌}
use native.Mathlib.Omega.{arith}
use lib.Dec.{eqb, leb}
use Rattle.image.specs.Check.{Check, stop, go, on_check}
use Rattle.std.specs.Prelude.{if◌then◌else◌}
use Rattle.image.specs.Memory.{Memory, Fetched, missing, found, entry, on_fetch}
use Rattle.image.specs.Rules.{Rules, answer, run, named, words_from}
use Rattle.registers.specs.Source.{bus_of, devfn_of}
use Rattle.registers.specs.declared.Registers.{Registers}
use Rattle.dma.specs.Context.{context_check, fault_processing_disabled}
use Rattle.dma.specs.Lookup.{context_rules, root_rules}
use Rattle.dma.specs.Page.{page_check, leaf_at}
use Rattle.dma.specs.Root.{root_check}
use Rattle.dma.specs.Translation.{Translation, through, leaf, fault, page_step, page_rules, width_rules}
use Rattle.dma.specs.Walk.{done, down, on_step, place_in, walk_rules}
use Rattle.dma.specs.declared.context.Context.{Context}
use Rattle.cache.specs.Claims.{PageWords}
use Rattle.cache.specs.Held.{page_of}
use Rattle.cache.proofs.Page.{apart, alike-test, place_same, page-walk}

module _ (registers : Registers) (write : Bool) (m : Memory) (a b frame level : ℕ) (same : page_of level a ≡ page_of level b) where
  walk-words : (fpd : Bool) (n table : ℕ) → run (page_rules registers a write fpd n table) m ≡ leaf frame level
      → named (page_rules registers b write fpd n table) m ≡ named (page_rules registers a write fpd n table) m
  unfolding run named walk_rules
  walk-words fpd zero table was = refl
  walk-words fpd (suc n) table was =
      let few = (page-walk registers write m a b frame level same fpd (suc n) table was).0 in
      rw (place_same registers write m a b frame level same table n few) (at_entry (entry 1 m (place_in a table n)) was (walk-words fpd n))
    where
      rest : (address : ℕ) (c : Check ℕ) (page : Bool) → Rules Translation
      rest address c page =
          on_step {S = Unit {0}} (on_check c (λ reason. done (fault reason fpd)) (λ f. if page then done (leaf f (suc n)) else down f tt)) answer
          (walk_rules address (λ s. fault 0x07 fpd) (page_step registers address write fpd) n)

      on : (c : Check ℕ) (page : Bool) → run (rest a c page) m ≡ leaf frame level
          → ((next : ℕ) → run (page_rules registers a write fpd n next) m ≡ leaf frame level
          → named (page_rules registers b write fpd n next) m ≡ named (page_rules registers a write fpd n next) m)
          → named (rest b c page) m ≡ named (rest a c page) m
      on (stop reason) page was ih = refl
      on (go f) true was ih = refl
      on (go f) false was ih = ih f was

      at_entry : (f : Fetched)
          → on_fetch f (fault 0x07 fpd) (λ e. run (rest a (page_check registers write (suc n) e) (leaf_at (suc n) e)) m) ≡ leaf frame level
          → ((next : ℕ) → run (page_rules registers a write fpd n next) m ≡ leaf frame level
          → named (page_rules registers b write fpd n next) m ≡ named (page_rules registers a write fpd n next) m)
          → on_fetch f [] (λ e. words_from 1 (place_in a table n) ++ named (rest b (page_check registers write (suc n) e) (leaf_at (suc n) e)) m)
          ≡ on_fetch f [] (λ e. words_from 1 (place_in a table n) ++ named (rest a (page_check registers write (suc n) e) (leaf_at (suc n) e)) m)
      at_entry missing was ih = refl
      at_entry (found e) was ih =
          ap (λ (l : List ℕ). words_from 1 (place_in a table n) ++ l) (on (page_check registers write (suc n) e) (leaf_at (suc n) e) was ih)

  width-words : (c : Context) → 39 ≤ registers.mgaw → run (width_rules registers a write c) m ≡ leaf frame level
      → named (width_rules registers b write c) m ≡ named (width_rules registers a write c) m
  unfolding width_rules run named
  width-words c wide was = on (leb (2 ^ min registers.mgaw (12 + 9 * c.levels)) a) refl (eqb c.translation_type 2) refl was
    where
      on : (over : Bool) → leb (2 ^ min registers.mgaw (12 + 9 * c.levels)) a ≡ over → (pass : Bool) → eqb c.translation_type 2 ≡ pass
          → run (if over then answer (fault 0x04 c.fpd) else if pass then answer through else page_rules registers a write c.fpd c.levels c.top) m
          ≡ leaf frame level
          → named (width_rules registers b write c) m ≡ named (width_rules registers a write c) m
      on true o pass p was = let z : ◌≡◌ {A = ℕ} 0 1 = cc in absurd (omega arith)
      on false o true p was = let z : ◌≡◌ {A = ℕ} 0 1 = cc in absurd (omega arith)
      on false o false p was =
          let h = page-walk registers write m a b frame level same c.fpd c.levels c.top was in
          let within : 12 + 9 * (level - 1) ≤ min registers.mgaw (12 + 9 * c.levels) = omega (arith, h.0, h.1) in
          let o' = sym (alike-test a b (12 + 9 * (level - 1)) (apart registers write m a b frame level same) (min registers.mgaw (12 + 9 * c.levels)) within) ∙ o in
          rw (o, o', p) (walk-words c.fpd c.levels c.top was)

-- what follows a context names the same words, so the whole does
module _ (registers : Registers) (m : Memory) (source frame level : ℕ) (next next' : Context → Rules Translation)
    (follows : (c : Context) → run (next c) m ≡ leaf frame level → named (next' c) m ≡ named (next c) m) where
  lookup-words : run (root_rules registers fault next source) m ≡ leaf frame level
      → named (root_rules registers fault next' source) m ≡ named (root_rules registers fault next source) m
  unfolding root_rules context_rules run named
  lookup-words was = at-root (entry 2 m (registers.root_table + 16 * bus_of source)) was
    where
      told : (e : ℕ) (k : Check Context)
          → run (on_check k (λ reason. answer (fault reason (fault_processing_disabled e))) next) m ≡ leaf frame level
          → named (on_check k (λ reason. answer (fault reason (fault_processing_disabled e))) next') m
          ≡ named (on_check k (λ reason. answer (fault reason (fault_processing_disabled e))) next) m
      told e (stop reason) was = refl
      told e (go c) was = follows c was

      at-context : (place : ℕ) (f : Fetched)
          → on_fetch f (fault 0x09 false) (λ e. run (on_check (context_check registers e) (λ reason. answer (fault reason (fault_processing_disabled e))) next) m) ≡ leaf frame level
          → on_fetch f [] (λ e. words_from 2 place ++ named (on_check (context_check registers e) (λ reason. answer (fault reason (fault_processing_disabled e))) next') m)
          ≡ on_fetch f [] (λ e. words_from 2 place ++ named (on_check (context_check registers e) (λ reason. answer (fault reason (fault_processing_disabled e))) next) m)
      at-context place missing was = refl
      at-context place (found e) was = ap (λ (l : List ℕ). words_from 2 place ++ l) (told e (context_check registers e) was)

      passed : (k : Check ℕ)
          → run (on_check k (λ reason. answer (fault reason false)) (context_rules registers fault next source)) m ≡ leaf frame level
          → named (on_check k (λ reason. answer (fault reason false)) (context_rules registers fault next' source)) m
          ≡ named (on_check k (λ reason. answer (fault reason false)) (context_rules registers fault next source)) m
      passed (stop reason) was = refl
      passed (go table) was = at-context (table + 16 * devfn_of source) (entry 2 m (table + 16 * devfn_of source)) was

      at-root : (f : Fetched)
          → on_fetch f (fault 0x08 false) (λ e. run (on_check (root_check registers.haw e) (λ reason. answer (fault reason false)) (context_rules registers fault next source)) m)
          ≡ leaf frame level
          → on_fetch f []
          (λ e.
          words_from 2 (registers.root_table + 16 * bus_of source)
          ++ named (on_check (root_check registers.haw e) (λ reason. answer (fault reason false)) (context_rules registers fault next' source)) m)
          ≡ on_fetch f []
          (λ e.
          words_from 2 (registers.root_table + 16 * bus_of source)
          ++ named (on_check (root_check registers.haw e) (λ reason. answer (fault reason false)) (context_rules registers fault next source)) m)
      at-root missing was = refl
      at-root (found e) was =
          ap (λ (l : List ℕ). words_from 2 (registers.root_table + 16 * bus_of source) ++ l) (passed (root_check registers.haw e) was)

pub page-words : PageWords
page-words registers source a b write m frame level wide was same =
    lookup-words registers m source frame level (width_rules registers a write) (width_rules registers b write)
    (λ c told. width-words registers write m a b frame level same c wide told) was
