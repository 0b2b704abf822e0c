-- Demand 3, claims 2 and 3: rights switched on never take back a grant, and rights switched off never give one.
use Prim.Native.Nat.{ℕ, ◌+◌, ◌%◌, ◌≤◌, ◌<◌}
use mathlib.Core.Bool.{Bool, true, false}
use mathlib.Core.Path.{◌≡◌, refl, ap, sym, ◌∙◌}
use mathlib.Core.List.Memᴰ
use mathlib.Core.List.{List, [], ◌∷◌, Memᴰ}
use mathlib.Core.Logic.{inl, inr, ⊎_elim}
use native.Mathlib.Omega.{arith}
use native.Mathlib.Decide.{dec_le, ℕ_discrete}
use Rattle.image.specs.Check.{go}
use Rattle.std.specs.Prelude.{if◌then◌else◌}
use Rattle.image.specs.EntryKind.{is_root_or_context}
use Rattle.image.specs.Memory.{Memory, Fetched, missing, found, join, entry}
use Rattle.image.specs.Rules.{Rules, run, entries_of}
use Rattle.image.proofs.Trees.{entries-map}
use Rattle.registers.specs.Admission.{Admitted, refusal, pass, taken_up, admission, in_interrupt_range}
use Rattle.registers.specs.Registers.{registers_bad}
use Rattle.registers.proofs.Good.{good}
use Rattle.registers.specs.declared.Registers.{Registers}
use Rattle.dma.specs.Isolation.{answer_over, walked_by_any, Disjoint, Apart, SwitchedEntry, BothFetched, Switched, RightsOn, RightsOff, Unshared}
use Rattle.dma.specs.Lookup.{context_rules, root_rules}
use Rattle.dma.specs.Requests.{granted, memory_outcome, memory_rules, table_entries}
use Rattle.dma.specs.Root.{root_check}
use Rattle.dma.specs.Translation.{Translation, through, leaf, fault, translation_rules}
use Rattle.dma.specs.declared.MemoryRequest.{MemoryRequest}
use Rattle.dma.proofs.Admissions.{taken-root, refuses, passes, takes}
use Rattle.dma.proofs.Raised.{RaisedFetch, Reaches}
use Rattle.dma.proofs.Stages.{root-aligned}
use Rattle.dma.proofs.Tables.{root_place, context_place, SameTables, kept-translation}

-- the claims' premise is no stronger than the demand's words: two entries that share no byte are disjoint
pub unshared : Unshared
unshared page table none = go (dec_le (page + 8) table) (dec_le (table + 16) page) (dec_le page table)
  where
    go : Dec (page + 8 ≤ table) → Dec (table + 16 ≤ page) → Dec (page ≤ table) → Disjoint page table
    go (yes before) above first = inl before
    go (no touches) (yes after) first = inr after
    go (no touches) (no overlaps) (yes first) = absurd (none table first (omega arith) (omega arith) (omega arith))
    go (no touches) (no overlaps) (no later) = absurd (none page (omega arith) (omega arith) (omega arith) (omega arith))

member : (a : ℕ) (xs : List ℕ) → Dec (Memᴰ a xs)
member a [] = no (λ is. Memᴰ.not-nil is)
member a (x ∷ xs) = by (ℕ_discrete a x) (member a xs)
  where
    by : Dec (a ≡ x) → Dec (Memᴰ a xs) → Dec (Memᴰ a (x ∷ xs))
    by (yes same) rest = yes (Memᴰ.head same)
    by (no other) (yes later) = yes (Memᴰ.tail later)
    by (no other) (no none) = no (λ is. ⊎_elim other none (Memᴰ.cases_cons is))

-- each word is as it was or switched
module _ {turned : ℕ → ℕ → Type 0} (same : (x : ℕ) → turned x x) (entries : List ℕ) (m m' : Memory) (switched : Switched turned entries m m') where
  pub words : (a : ℕ) → a % 8 ≡ 0 → BothFetched (SwitchedEntry turned) (m a) (m' a)
  words a aligned = by (member a entries)
    where
      kept : (f : Fetched) → BothFetched (SwitchedEntry turned) f f
      kept missing = tt
      kept (found e) = record { other-bits = refl; read = same _; write = same _ }

      by : Dec (Memᴰ a entries) → BothFetched (SwitchedEntry turned) (m a) (m' a)
      by (yes is) = switched.switched a is
      by (no out) = rw (switched.elsewhere a aligned out) (kept (m a))

-- switched off is switched on the other way
pub flipped : (f f' : Fetched) → BothFetched (SwitchedEntry (λ before after. after ≤ before)) f f' → RaisedFetch f' f
flipped missing missing both = tt
flipped missing (found e') both = both
flipped (found e) missing both = both
flipped (found e) (found e') both = record { other-bits = sym both.other-bits; read = both.read; write = both.write }

-- an entry of two words isn't there where it wasn't before
still-missing : (R : ℕ → ℕ → Type 0) (f f' g g' : Fetched) → BothFetched R f f' → BothFetched R g g'
    → join f (join g (found 0)) ≡ missing → missing ≡ join f' (join g' (found 0))
still-missing R missing missing g g' first second none = refl
still-missing R missing (found w') g g' first second none = absurd first
still-missing R (found w) missing g g' first second none = absurd first
still-missing R (found w) (found w') missing missing first second none = refl
still-missing R (found w) (found w') missing (found x') first second none = absurd second
still-missing R (found w) (found w') (found x) g' first second none = let z : ◌≡◌ {A = ℕ} 0 1 = cc in absurd (omega arith)

module _ (registers : Registers) (request : MemoryRequest) (taken : taken_up ≡ admission registers (in_interrupt_range request.address) registers.te) where
  abbrev rules : Rules Translation
  rules = translation_rules registers request.address request.write request.source.id

  tables : (m : Memory) → entries_of is_root_or_context rules m ≡ table_entries registers request m
  unfolding memory_rules
  tables m = rw (← taken) (sym (entries-map (memory_outcome request) is_root_or_context rules m))

  -- the root and the context entry of a request are among the entries of two words that it read
  root_in : (m : Memory) {e : ℕ} → entry 2 m (root_place registers request) ≡ found e
      → Memᴰ (root_place registers request) (table_entries registers request m)
  unfolding root_rules entries_of
  root_in m h = rw (← tables m, h) (Memᴰ.head refl)

  context-in : (m : Memory) {e table e' : ℕ} → entry 2 m (root_place registers request) ≡ found e → root_check registers.haw e ≡ go table
      → entry 2 m (context_place request table) ≡ found e'
      → Memᴰ (context_place request table) (table_entries registers request m)
  unfolding root_rules context_rules entries_of
  context-in m {e} {table} {e'} root passed context = rw (← tables m, root, passed, context) (Memᴰ.tail (Memᴰ.head refl))

  module _ {turned : ℕ → ℕ → Type 0} (same : (x : ℕ) → turned x x) (walkers : List MemoryRequest) (m m' : Memory)
      (apart : Apart registers walkers request m) (switched : Switched turned (walked_by_any registers walkers m) m m') where
    same-table : (place : ℕ) → place % 8 ≡ 0
        → ((e : ℕ) → entry 2 m place ≡ found e → Memᴰ place (table_entries registers request m))
        → entry 2 m place ≡ entry 2 m' place
    unfolding entry
    same-table place aligned is = by (entry 2 m place) refl
      where
        both : (a : ℕ) → a % 8 ≡ 0 → BothFetched (SwitchedEntry turned) (m a) (m' a)
        both = words same (walked_by_any registers walkers m) m m' switched

        word : (a : ℕ) → a % 8 ≡ 0 → place ≤ a → a < place + 16 → Memᴰ place (table_entries registers request m) → m a ≡ m' a
        word a aligned from to there =
            sym
            (switched.elsewhere a aligned
            (λ walked. ⊎_elim (λ before. omega arith) (λ after. omega arith) (apart a place walked there)))

        by : (f : Fetched) → entry 2 m place ≡ f → entry 2 m place ≡ entry 2 m' place
        by missing told =
            told ∙ still-missing (SwitchedEntry turned) (m place) (m' place) (m (place + 8)) (m' (place + 8)) (both place aligned) (both (place + 8) (omega arith)) told
        by (found e) told =
            rw (word place aligned (omega arith) (omega arith) (is e told), word (place + 8) (omega arith) (omega arith) (omega arith) (is e told))

    same_tables : SameTables registers request m m'
    same_tables =
        record {
          root = same-table (root_place registers request) (omega (arith, taken-root registers _ registers.te taken)) (λ e h. root_in m h);
          context = λ e table root passed.
              same-table (context_place request table) (omega (arith, root-aligned registers.haw e passed))
              (λ e' h. context-in m root passed h);
        }

-- registers that are taken up are good, so HAW is far above the two bits
taken-haw : (registers : Registers) (wrong on : Bool) → taken_up ≡ admission registers wrong on → 2 ≤ registers.haw
unfolding admission
taken-haw registers wrong on h = omega (arith, (good registers (go (registers_bad registers) h)).haw.least)
  where
    go : (bad : Bool) → taken_up ≡ (if bad then refusal 1 else if wrong then refusal 2 else if on then taken_up else pass) → bad ≡ false
    go true h = let z : ◌≡◌ {A = ℕ} 0 1 = cc in absurd (omega arith)
    go false h = refl

granted-at : (request : MemoryRequest) (t : Translation) {host : ℕ} → memory_outcome request t ≡ granted host → Reaches t
granted-at request through h = tt
granted-at request (leaf frame level) h = tt
granted-at request (fault reason fpd) h = let z : ◌≡◌ {A = ℕ} 0 1 = cc in absurd (omega arith)

-- granted over one memory, granted over another with the same tables and raised page entries
carried : (registers : Registers) (request : MemoryRequest) (m m' : Memory)
    → ((taken : taken_up ≡ admission registers (in_interrupt_range request.address) registers.te) → SameTables registers request m m')
    → ((a : ℕ) → a % 8 ≡ 0 → RaisedFetch (m a) (m' a))
    → (host : ℕ) → answer_over registers request m ≡ granted host → answer_over registers request m' ≡ granted host
carried registers request m m' same raised host = go (admission registers (in_interrupt_range request.address) registers.te) refl
  where
    go : (k : Admitted) → k ≡ admission registers (in_interrupt_range request.address) registers.te
        → answer_over registers request m ≡ granted host → answer_over registers request m' ≡ granted host
    go (refusal n) h was = sym (refuses registers request m' refl h) ∙ refuses registers request m refl h ∙ was
    go pass h was = sym (passes registers request m' refl h) ∙ passes registers request m refl h ∙ was
    go taken_up h was =
        let now = run (translation_rules registers request.address request.write request.source.id) m in
        let grants : memory_outcome request now ≡ granted host = takes registers request m refl h ∙ was in
        sym (takes registers request m' refl h)
        ∙ ap (memory_outcome request)
        (kept-translation registers request (taken-haw registers _ registers.te h) m m' raised now (granted-at request now grants) (same h) refl)
        ∙ grants

pub rights-on : RightsOn
rights-on registers walkers request m m' apart on =
    carried registers request m m' (λ taken. same_tables registers request taken (λ x. omega arith) walkers m m' apart on)
    (words (λ x. omega arith) (walked_by_any registers walkers m) m m' on)

mirrored : {registers : Registers} {request : MemoryRequest} {m m' : Memory} → SameTables registers request m m' → SameTables registers request m' m
mirrored same =
    record {
      root = sym same.root;
      context = λ e table root passed. sym (same.context e table (same.root ∙ root) passed);
    }

pub rights-off : RightsOff
rights-off registers walkers request m m' apart off denied host was =
    denied host
    (carried registers request m' m (λ taken. mirrored (same_tables registers request taken (λ x. omega arith) walkers m m' apart off))
    (λ a aligned. flipped (m a) (m' a) (words (λ x. omega arith) (walked_by_any registers walkers m) m m' off a aligned))
    host was)
