-- Laws of the lookup of a context, whatever follows it.
use Rattle.std.specs.Prelude.{Result, Ok, Err}
use Prim.Native.Nat.{ℕ, ◌+◌, ◌*◌}
use mathlib.Core.Bool.{Bool, false}
use mathlib.Core.Path.{◌≡◌, refl, ap, sym, ◌∙◌, subst}
use native.Mathlib.Omega.{arith}
use Rattle.image.specs.Check.{Check, stop, go, on_check}
use Rattle.image.specs.EntryKind.{EntryKind, root_entry, context_entry}
use Rattle.image.specs.Memory.{Memory, Fetched, missing, found, entry, on_fetch}
use Rattle.image.specs.Place.{Place, no_entry, entry_at, last_tried, stopped_at}
use Rattle.image.specs.Rules.{Rules, answer, run}
use Rattle.image.proofs.Forks.{Every, every-answer, every-fetch, every-run}
use Rattle.image.proofs.Places.{only_at}
use Rattle.image.proofs.Stages.{check-cases}
use Rattle.registers.specs.Source.{bus_of, devfn_of}
use Rattle.registers.specs.declared.Registers.{Registers}
use Rattle.dma.specs.Context.{context_check, fault_processing_disabled, Usable}
use Rattle.dma.specs.Lookup.{Lookup, context, no_context, on_lookup, context_rules, root_rules, lookup_rules}
use Rattle.dma.specs.Root.{root_check}
use Rattle.dma.specs.Answers.{lookup_of, lookup_place}
use Rattle.dma.specs.declared.context.Context.{Context}
use Rattle.dma.specs.declared.context.FoundContext.{FoundContext}
use Rattle.faults.specs.Reason.{number_of}
use Rattle.faults.specs.declared.reason.Reason.{Reason}
use Rattle.faults.specs.declared.stop.Stop.{Stop}
use Rattle.dma.proofs.Stages.{usable}

-- what holds of the forks and answers of a lookup and of what follows a context
module _ {A : Type 0} (Fork : EntryKind → ℕ → A → Type 0) (Ends : A → Type 0) (most : ℕ) (registers : Registers)
    (faulted : (reason : ℕ) (fpd : Bool) → A) (next : Context → Rules A) (source : ℕ)
    (root-read : Fork root_entry (registers.root_table + 16 * bus_of source) (faulted 0x08 false))
    (context-read : (e table : ℕ) → root_check registers.haw e ≡ go table
    → Fork context_entry (table + 16 * devfn_of source) (faulted 0x09 false))
    (root-stops : (e reason : ℕ) → root_check registers.haw e ≡ stop reason → Ends (faulted reason false))
    (context-stops : (e reason : ℕ) → context_check registers e ≡ stop reason → Ends (faulted reason (fault_processing_disabled e)))
    (follows : (c : Context) → Usable c → Every Fork Ends most (next c)) where
  pub every-lookup : Every Fork Ends (4 + most) (root_rules registers faulted next source)
  unfolding root_rules context_rules
  every-lookup =
      every-fetch Fork Ends (4 + most) (2 + most) root_entry (registers.root_table + 16 * bus_of source) (faulted 0x08 false) _ (omega arith)
      root-read
      (λ e.
      check-cases (Every Fork Ends (2 + most)) (root_check registers.haw e) (λ reason. faulted reason false)
      (context_rules registers faulted next source) (λ reason told. every-answer Fork Ends (2 + most) (faulted reason false) (root-stops e reason told))
      (λ table led.
      every-fetch Fork Ends (2 + most) most context_entry (table + 16 * devfn_of source) (faulted 0x09 false) _ (omega arith) (context-read e table led)
      (λ e.
      check-cases (Every Fork Ends most) (context_check registers e) (λ reason. faulted reason (fault_processing_disabled e)) next
      (λ reason told. every-answer Fork Ends most _ (context-stops e reason told))
      (λ c told. follows c (usable registers e told)))))

-- the lookup, then what follows it
module _ {A : Type 0} (registers : Registers) (faulted : (reason : ℕ) (fpd : Bool) → A) (next : Context → Rules A) (m : Memory) (source : ℕ) where
  pub looked-up : run (root_rules registers faulted next source) m
      ≡ on_lookup (run (lookup_rules registers source) m) faulted (λ c. run (next c) m)
  unfolding root_rules context_rules run
  looked-up = at-root (entry 2 m (registers.root_table + 16 * bus_of source))
    where
      told : (e : ℕ) (k : Check Context)
          → run (on_check k (λ reason. answer (faulted reason (fault_processing_disabled e))) next) m
          ≡ on_lookup (run (on_check k (λ reason. answer (no_context reason (fault_processing_disabled e))) (λ c. answer (context c))) m) faulted (λ c. run (next c) m)
      told e (stop reason) = refl
      told e (go c) = refl

      at-context : (f : Fetched)
          → on_fetch f (faulted 0x09 false) (λ e. run (on_check (context_check registers e) (λ reason. answer (faulted reason (fault_processing_disabled e))) next) m)
          ≡ on_lookup
          (on_fetch f (no_context 0x09 false)
          (λ e. run (on_check (context_check registers e) (λ reason. answer (no_context reason (fault_processing_disabled e))) (λ c. answer (context c))) m))
          faulted
          (λ c. run (next c) m)
      at-context missing = refl
      at-context (found e) = told e (context_check registers e)

      passed : (k : Check ℕ)
          → run (on_check k (λ reason. answer (faulted reason false)) (context_rules registers faulted next source)) m
          ≡ on_lookup
          (run (on_check k (λ reason. answer (no_context reason false)) (context_rules registers no_context (λ c. answer (context c)) source)) m)
          faulted
          (λ c. run (next c) m)
      passed (stop reason) = refl
      passed (go table) = at-context (entry 2 m (table + 16 * devfn_of source))

      at-root : (f : Fetched)
          → on_fetch f (faulted 0x08 false)
          (λ e. run (on_check (root_check registers.haw e) (λ reason. answer (faulted reason false)) (context_rules registers faulted next source)) m)
          ≡ on_lookup
          (on_fetch f (no_context 0x08 false)
          (λ e.
          run
          (on_check (root_check registers.haw e) (λ reason. answer (no_context reason false))
          (context_rules registers no_context (λ c. answer (context c)) source)) m))
          faulted
          (λ c. run (next c) m)
      at-root missing = refl
      at-root (found e) = passed (root_check registers.haw e)

  -- it stops where the lookup does, or where what follows stops
  pub looked-up-at : (before : Place) → last_tried before (root_rules registers faulted next source) m
      ≡ on_lookup (run (lookup_rules registers source) m) (λ reason fpd. last_tried before (lookup_rules registers source) m)
      (λ c. last_tried (last_tried before (lookup_rules registers source) m) (next c) m)
  unfolding root_rules context_rules run last_tried
  looked-up-at before = at-root (entry 2 m (registers.root_table + 16 * bus_of source))
    where
      root : Place
      root = entry_at (registers.root_table + 16 * bus_of source)

      alone : Rules Lookup → Rules A → Place → Type 0
      alone lookup whole place =
          last_tried place whole m
          ≡ on_lookup (run lookup m) (λ reason fpd. last_tried place lookup m) (λ c. last_tried (last_tried place lookup m) (next c) m)

      told : (e : ℕ) (place : Place) (k : Check Context)
          → alone (on_check k (λ reason. answer (no_context reason (fault_processing_disabled e))) (λ c. answer (context c)))
          (on_check k (λ reason. answer (faulted reason (fault_processing_disabled e))) next) place
      told e place (stop reason) = refl
      told e place (go c) = refl

      at-context : (table : ℕ) (f : Fetched)
          → on_fetch f (entry_at (table + 16 * devfn_of source))
          (λ e.
          last_tried (entry_at (table + 16 * devfn_of source))
          (on_check (context_check registers e) (λ reason. answer (faulted reason (fault_processing_disabled e))) next) m)
          ≡ on_lookup
          (on_fetch f (no_context 0x09 false)
          (λ e. run (on_check (context_check registers e) (λ reason. answer (no_context reason (fault_processing_disabled e))) (λ c. answer (context c))) m))
          (λ reason fpd.
          on_fetch f (entry_at (table + 16 * devfn_of source))
          (λ e.
          last_tried (entry_at (table + 16 * devfn_of source))
          (on_check (context_check registers e) (λ reason. answer (no_context reason (fault_processing_disabled e))) (λ c. answer (context c))) m))
          (λ c.
          last_tried
          (on_fetch f (entry_at (table + 16 * devfn_of source))
          (λ e.
          last_tried (entry_at (table + 16 * devfn_of source))
          (on_check (context_check registers e) (λ reason. answer (no_context reason (fault_processing_disabled e))) (λ c. answer (context c))) m))
          (next c) m)
      at-context table missing = refl
      at-context table (found e) = told e (entry_at (table + 16 * devfn_of source)) (context_check registers e)

      passed : (k : Check ℕ)
          → alone
          (on_check k (λ reason. answer (no_context reason false)) (context_rules registers no_context (λ c. answer (context c)) source))
          (on_check k (λ reason. answer (faulted reason false)) (context_rules registers faulted next source)) root
      passed (stop reason) = refl
      passed (go table) = at-context table (entry 2 m (table + 16 * devfn_of source))

      at-root : (f : Fetched)
          → on_fetch f root
          (λ e. last_tried root (on_check (root_check registers.haw e) (λ reason. answer (faulted reason false)) (context_rules registers faulted next source)) m)
          ≡ on_lookup
          (on_fetch f (no_context 0x08 false)
          (λ e.
          run
          (on_check (root_check registers.haw e) (λ reason. answer (no_context reason false))
          (context_rules registers no_context (λ c. answer (context c)) source)) m))
          (λ reason fpd.
          on_fetch f root
          (λ e.
          last_tried root
          (on_check (root_check registers.haw e) (λ reason. answer (no_context reason false))
          (context_rules registers no_context (λ c. answer (context c)) source)) m))
          (λ c.
          last_tried
          (on_fetch f root
          (λ e.
          last_tried root
          (on_check (root_check registers.haw e) (λ reason. answer (no_context reason false))
          (context_rules registers no_context (λ c. answer (context c)) source)) m))
          (next c) m)
      at-root missing = refl
      at-root (found e) = passed (root_check registers.haw e)

-- a context entry is the last that a lookup tries
pub context-place : (registers : Registers) (before : Place) (m : Memory) (source table : ℕ)
    → entry_at (table + 16 * devfn_of source) ≡ last_tried before (context_rules registers no_context (λ c. answer (context c)) source table) m
unfolding context_rules last_tried
context-place registers before m source table = by (entry 2 m (table + 16 * devfn_of source))
  where
    by : (f : Fetched)
        → entry_at (table + 16 * devfn_of source)
        ≡ on_fetch f (entry_at (table + 16 * devfn_of source))
        (λ e.
        last_tried (entry_at (table + 16 * devfn_of source))
        (on_check (context_check registers e) (λ reason. answer (no_context reason (fault_processing_disabled e))) (λ c. answer (context c))) m)
    by missing = refl
    by (found e) = only_at (entry_at (table + 16 * devfn_of source)) m (context_check registers e) _ context

-- a context that a lookup finds is usable
abbrev pub Finds : Lookup → Type 0
Finds l = on_lookup l (λ reason fpd. Unit {0}) Usable

pub finds : (registers : Registers) (source : ℕ) (m : Memory) → Finds (run (lookup_rules registers source) m)
finds registers source m =
    every-run (λ kind at l. Finds l) Finds (λ kind at l found. found) 4 (lookup_rules registers source) m
    (every-lookup (λ kind at l. Finds l) Finds 0 registers no_context (λ c. answer (context c)) source tt (λ e table _. tt) (λ e reason _. tt)
    (λ e reason _. tt)
    (λ c good. every-answer (λ kind at l. Finds l) Finds 0 (context c) good))

-- the lookup as the code has it, and what follows: what is answered, where that stops, and that a context found is usable
record Looked {A : Type 0} (registers : Registers) (faulted : (reason : ℕ) (fpd : Bool) → A) (next : Context → Rules A) (m : Memory) (source : ℕ) (l : Result FoundContext (Stop Reason)) : Type 0 where
  pub answers : on_lookup (lookup_of l) faulted (λ c. run (next c) m) ≡ run (root_rules registers faulted next source) m
  pub stops : on_lookup (lookup_of l) (λ reason fpd. lookup_place l) (λ c. last_tried (lookup_place l) (next c) m) ≡ stopped_at (root_rules registers faulted next source) m
  pub finding : Finds (lookup_of l)

-- of a result of the code, by what it says and which entry it names
module _ {A R : Type 0} (said : R → A) (Named : R → Place → Type 0) (registers : Registers) (faulted : (reason : ℕ) (fpd : Bool) → A)
    (next : Context → Rules A) (m : Memory) (source : ℕ) {l : Result FoundContext (Stop Reason)}
    (looks : (lookup_of l ≡ run (lookup_rules registers source) m) × (lookup_place l ≡ stopped_at (lookup_rules registers source) m)) where
  looked : {l' : Result FoundContext (Stop Reason)} → l ≡ l' → Looked registers faulted next m source l'
  looked is =
      let found = sym (ap lookup_of is) ∙ looks.0 in
      let tried = sym (ap lookup_place is) ∙ looks.1 in
      record {
        answers = rw found (sym (looked-up registers faulted next m source));
        stops = rw (found, tried) (sym (looked-up-at registers faulted next m source no_entry));
        finding = rw found (finds registers source m);
      }

  -- a lookup that found no context is told as such
  pub no-context-told : {s : Stop Reason} (r : R) → l ≡ Err s
      → (said r ≡ faulted (number_of s.reason) s.fpd) × Named r (entry_at s.at)
      → (said r ≡ run (root_rules registers faulted next source) m) × Named r (stopped_at (root_rules registers faulted next source) m)
  no-context-told r is told = (told.0 ∙ (looked is).answers, subst (Named r) (looked is).stops told.1)

  -- with a context what follows it is told
  pub context-told : {found : FoundContext} (r : R) → l ≡ Ok found
      → (said r ≡ run (next found.context) m) × Named r (last_tried (entry_at found.at) (next found.context) m)
      → (said r ≡ run (root_rules registers faulted next source) m) × Named r (stopped_at (root_rules registers faulted next source) m)
  context-told r is told = (told.0 ∙ (looked is).answers, subst (Named r) (looked is).stops told.1)

  pub context-usable : {found : FoundContext} → l ≡ Ok found → Usable found.context
  context-usable is = (looked is).finding
