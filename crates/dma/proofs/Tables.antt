-- A request granted over one memory is granted over another that has the same root and context entry and page entries with rights
-- switched on.
use Prim.Native.Nat.{ℕ, ◌+◌, ◌*◌, ◌%◌, ◌≤◌}
use mathlib.Core.Bool.{false}
use mathlib.Core.Path.{◌≡◌, refl, sym, ◌∙◌}
use native.Mathlib.Omega.{arith}
use Rattle.image.specs.Check.{Check, stop, go, on_check}
use Rattle.image.specs.Memory.{Memory, Fetched, missing, found, entry, on_fetch}
use Rattle.image.specs.Rules.{Rules, answer, run}
use Rattle.registers.specs.Source.{bus_of, devfn_of}
use Rattle.registers.specs.declared.Registers.{Registers}
use Rattle.dma.specs.Context.{context_check, fault_processing_disabled}
use Rattle.dma.specs.Lookup.{Lookup, context, no_context, on_lookup, context_rules, root_rules, lookup_rules}
use Rattle.dma.specs.Root.{root_check}
use Rattle.dma.specs.Translation.{Translation, fault, width_rules, translation_rules}
use Rattle.dma.specs.declared.context.Context.{Context}
use Rattle.dma.specs.declared.MemoryRequest.{MemoryRequest}
use Rattle.dma.proofs.Cases.{width-cases}
use Rattle.dma.proofs.Lookups.{looked-up, Finds, finds}
use Rattle.dma.proofs.Raised.{RaisedFetch, Reaches, raised_walk}

-- where a request's root entry is, and its context entry in a context table
abbrev pub root_place : Registers → MemoryRequest → ℕ
root_place registers request = registers.root_table + 16 * bus_of request.source.id

abbrev pub context_place : MemoryRequest → (table : ℕ) → ℕ
context_place request table = table + 16 * devfn_of request.source.id

-- two memories have the same root and context entry of a request
pub record SameTables (registers : Registers) (request : MemoryRequest) (m m' : Memory) : Type 0 where
  pub root : entry 2 m (root_place registers request) ≡ entry 2 m' (root_place registers request)
  pub context : (e table : ℕ) → entry 2 m (root_place registers request) ≡ found e → root_check registers.haw e ≡ go table
      → entry 2 m (context_place request table) ≡ entry 2 m' (context_place request table)

-- so they have the same context
module _ (registers : Registers) (request : MemoryRequest) (m m' : Memory) (same : SameTables registers request m m') where
  pub same-lookup : run (lookup_rules registers request.source.id) m ≡ run (lookup_rules registers request.source.id) m'
  unfolding root_rules context_rules run
  same-lookup = rw (← same.root) (at-root (entry 2 m (root_place registers request)) refl)
    where
      told : (e : ℕ) (k : Check Context)
          → run (on_check k (λ reason. answer (no_context reason (fault_processing_disabled e))) (λ c. answer (context c))) m
          ≡ run (on_check k (λ reason. answer (no_context reason (fault_processing_disabled e))) (λ c. answer (context c))) m'
      told e (stop reason) = refl
      told e (go c) = refl

      after : Memory → ℕ → Lookup
      after m e = run (on_check (context_check registers e) (λ reason. answer (no_context reason (fault_processing_disabled e))) (λ c. answer (context c))) m

      at-context : (f : Fetched) → on_fetch f (no_context 0x09 false) (after m) ≡ on_fetch f (no_context 0x09 false) (after m')
      at-context missing = refl
      at-context (found e) = told e (context_check registers e)

      passed : (e : ℕ) → entry 2 m (root_place registers request) ≡ found e → (k : Check ℕ) → root_check registers.haw e ≡ k
          → run (on_check k (λ reason. answer (no_context reason false)) (context_rules registers no_context (λ c. answer (context c)) request.source.id)) m
          ≡ run (on_check k (λ reason. answer (no_context reason false)) (context_rules registers no_context (λ c. answer (context c)) request.source.id)) m'
      passed e root (stop reason) is = refl
      passed e root (go table) is = rw (← same.context e table root is) (at-context (entry 2 m (context_place request table)))

      next : Memory → ℕ → Lookup
      next m e =
          run
          (on_check (root_check registers.haw e) (λ reason. answer (no_context reason false))
          (context_rules registers no_context (λ c. answer (context c)) request.source.id)) m

      at-root : (f : Fetched) → entry 2 m (root_place registers request) ≡ f
          → on_fetch f (no_context 0x08 false) (next m) ≡ on_fetch f (no_context 0x08 false) (next m')
      at-root missing root = refl
      at-root (found e) root = passed e root (root_check registers.haw e) refl

module _ (registers : Registers) (request : MemoryRequest) (haw : 2 ≤ registers.haw) (m m' : Memory)
    (raised : (a : ℕ) → a % 8 ≡ 0 → RaisedFetch (m a) (m' a)) (t : Translation) (good : Reaches t) where
  abbrev Kept : Rules Translation → Type 0
  Kept q = run q m ≡ t → run q m' ≡ t

  answered : (a : Translation) → Kept (answer a)
  unfolding run
  answered a was = was

  pub kept-translation : SameTables registers request m m'
      → Kept (translation_rules registers request.address request.write request.source.id)
  kept-translation same was =
      looked-up registers fault (width_rules registers request.address request.write) m' request.source.id
      ∙ rw (← same-lookup registers request m m' same)
      (after (run (lookup_rules registers request.source.id) m) (finds registers request.source.id m)
      (sym (looked-up registers fault (width_rules registers request.address request.write) m request.source.id) ∙ was))
    where
      after : (l : Lookup) → Finds l
          → on_lookup l fault (λ c. run (width_rules registers request.address request.write c) m) ≡ t
          → on_lookup l fault (λ c. run (width_rules registers request.address request.write c) m') ≡ t
      after (no_context reason fpd) ok = λ was. was
      after (context c) ok =
          width-cases Kept registers request.address request.write c (answered _) (answered _)
          (raised_walk registers haw request.address request.write c.fpd m m' raised c.levels c.top t good (omega (arith, ok.2)))
