-- A granted request was let through, or its own walk reached the page.
use Prim.Native.Nat.{ℕ, zero, suc, ◌+◌, ◌*◌, ◌^◌, min}
use mathlib.Core.Bool.{Bool, true, false, not}
use mathlib.Core.Path.{◌≡◌, refl, ap, sym, ◌∙◌}
use mathlib.Core.List.Memᴰ
use mathlib.Core.List.{List, [], ◌∷◌}
use mathlib.Core.Logic.{◌⊎◌, inl, inr, ⊎_elim}
use native.Mathlib.Omega.{arith}
use borrow.Author.Tests.{eqb-true, not-false}
use lib.Dec.{eqb, leb}
use Rattle.image.specs.Bits.{any_set}
use Rattle.image.specs.Check.{Check, stop, go, on_check}
use Rattle.std.specs.Prelude.{if◌then◌else◌}
use Rattle.image.specs.EntryKind.{EntryKind, is_page}
use Rattle.image.specs.Memory.{Memory, Fetched, missing, found, entry, on_fetch}
use Rattle.image.specs.Rules.{Rules, answer, run, entries_of}
use Rattle.image.proofs.Choices.{past}
use Rattle.image.proofs.Forks.{every-run}
use Rattle.image.proofs.Same.{one_word}
use Rattle.image.proofs.Trees.{entries-map}
use Rattle.registers.specs.Admission.{Admitted, refusal, pass, taken_up, admission, in_interrupt_range}
use Rattle.registers.specs.Registers.{registers_bad}
use Rattle.registers.specs.Source.{bus_of, devfn_of}
use Rattle.registers.specs.declared.Registers.{Registers}
use Rattle.dma.specs.Context.{context_check, fault_processing_disabled}
use Rattle.dma.specs.Isolation.{answer_over}
use Rattle.dma.specs.Lookup.{Lookup, context, no_context, on_lookup, context_rules, root_rules, lookup_rules}
use Rattle.dma.specs.Page.{denied, own_right, leaf_at, page_reserved, page_check, host_address}
use Rattle.dma.specs.Reached.{Path, frame_of, Reached, Unchanged, GrantedByOwnWalk}
use Rattle.dma.specs.Requests.{granted, refused, memory_outcome, memory_rules, walked}
use Rattle.dma.specs.Root.{root_check}
use Rattle.dma.specs.Translation.{Translation, through, leaf, fault, page_step, page_rules, width_rules, translation_rules}
use Rattle.dma.specs.Walk.{Step, done, down, on_step, place_in, walk_rules}
use Rattle.dma.specs.declared.context.Context.{Context}
use Rattle.dma.specs.declared.MemoryRequest.{MemoryRequest}
use Rattle.dma.proofs.Admissions.{refuses, passes, takes}
use Rattle.dma.proofs.Leaves.{leaf-granted}
use Rattle.dma.proofs.Lookups.{looked-up}
use Rattle.dma.proofs.Stepped.{leads}
use Rattle.dma.proofs.Steps.{page-frame, leaf-low, offset-lt}
use Rattle.dma.proofs.Walks.{every-walk}

-- an entry that its check lets pass has the right
passed-right : (registers : Registers) (write : Bool) (level e frame : ℕ) → page_check registers write level e ≡ go frame
    → own_right write e ≡ true
unfolding page_check
passed-right registers write level e frame h =
    let h1 = past (not (any_set e 1 0)) (denied write) _ frame h in
    let h2 = past (page_reserved registers level e) 0x0C _ frame h1.1 in
    let h3 = past (not (own_right write e)) (denied write) _ frame h2.1 in
    not-false (own_right write e) h3.0

-- a path to the page with this frame, whose leaf is of this level
record Leads (request : MemoryRequest) (m : Memory) (entries : List ℕ) (top frame k : ℕ) : Type 0 where
  path : Path request m entries top
  at_level : path.level ≡ k
  framed : frame ≡ frame_of path

-- the page entries that are read after a context
module _ {A : Type 0} (registers : Registers) (faulted : (reason : ℕ) (fpd : Bool) → A) (next : Context → Rules A) (m : Memory) (source : ℕ) where
  abbrev pages_of : Lookup → List ℕ
  pages_of l = on_lookup l (λ reason fpd. []) (λ c. entries_of is_page (next c) m)

  pages-looked-up : entries_of is_page (root_rules registers faulted next source) m ≡ pages_of (run (lookup_rules registers source) m)
  unfolding root_rules context_rules run entries_of
  pages-looked-up = at-root (entry 2 m (registers.root_table + 16 * bus_of source))
    where
      told : (e : ℕ) (k : Check Context)
          → entries_of is_page (on_check k (λ reason. answer (faulted reason (fault_processing_disabled e))) next) m
          ≡ pages_of (run (on_check k (λ reason. answer (no_context reason (fault_processing_disabled e))) (λ c. answer (context c))) m)
      told e (stop reason) = refl
      told e (go c) = refl

      at-context : (f : Fetched)
          → on_fetch f [] (λ e. entries_of is_page (on_check (context_check registers e) (λ reason. answer (faulted reason (fault_processing_disabled e))) next) m)
          ≡ pages_of
          (on_fetch f (no_context 0x09 false)
          (λ e. run (on_check (context_check registers e) (λ reason. answer (no_context reason (fault_processing_disabled e))) (λ c. answer (context c))) m))
      at-context missing = refl
      at-context (found e) = told e (context_check registers e)

      passed : (k : Check ℕ)
          → entries_of is_page (on_check k (λ reason. answer (faulted reason false)) (context_rules registers faulted next source)) m
          ≡ pages_of
          (run (on_check k (λ reason. answer (no_context reason false)) (context_rules registers no_context (λ c. answer (context c)) source)) m)
      passed (stop reason) = refl
      passed (go table) = at-context (entry 2 m (table + 16 * devfn_of source))

      at-root : (f : Fetched)
          → on_fetch f [] (λ e. entries_of is_page (on_check (root_check registers.haw e) (λ reason. answer (faulted reason false)) (context_rules registers faulted next source)) m)
          ≡ pages_of
          (on_fetch f (no_context 0x08 false)
          (λ e.
          run
          (on_check (root_check registers.haw e) (λ reason. answer (no_context reason false))
          (context_rules registers no_context (λ c. answer (context c)) source)) m))
      at-root missing = refl
      at-root (found e) = passed (root_check registers.haw e)

module _ (registers : Registers) (request : MemoryRequest) (m : Memory) where
  -- an entry that was fetched is the word at its place
  word-at : (place e : ℕ) → entry 1 m place ≡ found e → m place ≡ found e
  word-at place e h = sym (one_word m place) ∙ h

  -- an entry that lets the request pass, in front of the path below it
  module _ (fpd : Bool) where
    abbrev step : (level place : ℕ) → Unit {0} → (e : ℕ) → Step (Unit {0}) Translation
    step = page_step registers request.address request.write fpd

    -- a page that a step ends with
    ends : (level place e : ℕ) (t : Translation) → done t ≡ step level place tt e
        → (t ≡ through → ⊥) × ((frame k : ℕ) → t ≡ leaf frame k → (k ≡ level) × (page_check registers request.write level e ≡ go frame) × (leaf_at level e ≡ true))
    ends level place e t = on (page_check registers request.write level e) (leaf_at level e)
      where
        on : (c : Check ℕ) (page : Bool)
            → ◌≡◌ {A = Step (Unit {0}) Translation} (done t)
            (on_check c (λ r. done (fault r fpd)) (λ frame. if page then done (leaf frame level) else down frame tt))
            → (t ≡ through → ⊥) × ((frame k : ℕ) → t ≡ leaf frame k → (k ≡ level) × (c ≡ go frame) × (page ≡ true))
        on (stop r) page h =
            (λ is. let z : ◌≡◌ {A = ℕ} 0 1 = cc in omega arith, λ frame k is. let z : ◌≡◌ {A = ℕ} 0 1 = cc in absurd (omega arith))
        on (go a) true h = (λ is. let z : ◌≡◌ {A = ℕ} 0 1 = cc in omega arith, λ frame k is. (cc, cc, refl))
        on (go a) false h =
            (λ is. let z : ◌≡◌ {A = ℕ} 0 1 = cc in omega arith, λ frame k is. let z : ◌≡◌ {A = ℕ} 0 1 = cc in absurd (omega arith))

    single : (n place e frame : ℕ) → entry 1 m place ≡ found e → page_check registers request.write (suc n) e ≡ go frame → leaf_at (suc n) e ≡ true
        → Leads request m (place ∷ []) (suc n) frame (suc n)
    single n place e frame told check page =
        let w = word-at place e told in
        let ok = passed-right registers request.write (suc n) e frame check in
        record {
          path =
              record {
                above = [];
                leaf = place;
                to-leaf = refl;
                word = e;
                there = w;
                level = suc n;
                levels = omega arith;
                page-size = (omega arith, leaf-low registers request.write (suc n) e frame check page);
                is_leaf = page;
                right = λ at is. ⊎_elim (λ same. rw same (rw w ok)) (λ r. absurd (Memᴰ.not-nil r)) (Memᴰ.cases_cons is);
              };
          at_level = refl;
          framed = page-frame registers request.write (suc n) e frame check;
        }

    longer : {entries : List ℕ} {frame k : ℕ} (n place e next : ℕ) → entry 1 m place ≡ found e → page_check registers request.write (suc n) e ≡ go next
        → Leads request m entries n frame k → Leads request m (place ∷ entries) (suc n) frame k
    longer n place e next told check below =
        let w = word-at place e told in
        let ok = passed-right registers request.write (suc n) e next check in
        let p = below.path in
        record {
          path =
              record {
                above = place ∷ p.above;
                leaf = p.leaf;
                to-leaf = ap (λ (l : List ℕ). place ∷ l) p.to-leaf;
                word = p.word;
                there = p.there;
                level = p.level;
                levels = omega (arith, p.levels);
                page-size = p.page-size;
                is_leaf = p.is_leaf;
                right = λ at is. ⊎_elim (λ same. rw same (rw w ok)) (p.right at) (Memᴰ.cases_cons is);
              };
          at_level = below.at_level;
          framed = below.framed;
        }

    reached-walk : (n table frame k : ℕ) → run (page_rules registers request.address request.write fpd n table) m ≡ leaf frame k
        → Leads request m (entries_of is_page (page_rules registers request.address request.write fpd n table) m) n frame k
    unfolding run walk_rules entries_of
    reached-walk zero table frame k was = let z : ◌≡◌ {A = ℕ} 0 1 = cc in absurd (omega arith)
    reached-walk (suc n) table frame k was = fetched (entry 1 m place) refl was (λ next. reached-walk n next frame k)
      where
        place : ℕ
        place = place_in request.address table n

        rest : Step (Unit {0}) Translation → Rules Translation
        rest x = on_step x answer (walk_rules request.address (λ s. fault 0x07 fpd) step n)

        on : (e : ℕ) → entry 1 m place ≡ found e → (x : Step (Unit {0}) Translation) → x ≡ step (suc n) place tt e → run (rest x) m ≡ leaf frame k
            → ((next : ℕ) → run (page_rules registers request.address request.write fpd n next) m ≡ leaf frame k
            → Leads request m (entries_of is_page (page_rules registers request.address request.write fpd n next) m) n frame k)
            → Leads request m (place ∷ entries_of is_page (rest x) m) (suc n) frame k
        on e told (done t) stepped was ih =
            let h = (ends (suc n) place e t stepped).1 frame k was in
            rw h.0 (single n place e frame told h.1 h.2)
        on e told (down next s) stepped was ih =
            longer n place e next told (leads registers request.address request.write fpd (suc n) place e stepped).0 (ih next was)

        fetched : (f : Fetched) → entry 1 m place ≡ f → on_fetch f (fault 0x07 fpd) (λ e. run (rest (step (suc n) place tt e)) m) ≡ leaf frame k
            → ((next : ℕ) → run (page_rules registers request.address request.write fpd n next) m ≡ leaf frame k
            → Leads request m (entries_of is_page (page_rules registers request.address request.write fpd n next) m) n frame k)
            → Leads request m (on_fetch f [] (λ e. place ∷ entries_of is_page (rest (step (suc n) place tt e)) m)) (suc n) frame k
        fetched missing told was ih = let z : ◌≡◌ {A = ℕ} 0 1 = cc in absurd (omega arith)
        fetched (found e) told was ih = on e told (step (suc n) place tt e) refl was ih

  -- a walk doesn't pass through
  abbrev Not : Translation → Type 0
  Not t = t ≡ through → ⊥

  abbrev Other : EntryKind → ℕ → Translation → Type 0
  Other kind at t = Not t

  -- what the width and pass-through leave
  width-through : (c : Context) → run (width_rules registers request.address request.write c) m ≡ through
      → (entries_of is_page (width_rules registers request.address request.write c) m ≡ []) × (c.translation_type ≡ 2)
  unfolding width_rules run entries_of
  width-through c = by (leb (2 ^ min registers.mgaw (12 + 9 * c.levels)) request.address) (eqb c.translation_type 2) refl
    where
      walk : Rules Translation
      walk = page_rules registers request.address request.write c.fpd c.levels c.top

      by : (wide passes : Bool) → eqb c.translation_type 2 ≡ passes
          → run (if wide then answer (fault 0x04 c.fpd) else if passes then answer through else walk) m ≡ through
          → (entries_of is_page (if wide then answer (fault 0x04 c.fpd) else if passes then answer through else walk) m ≡ []) × (c.translation_type ≡ 2)
      by true passes type was = let z : ◌≡◌ {A = ℕ} 0 1 = cc in absurd (omega arith)
      by false true type was = (refl, eqb-true c.translation_type 2 type)
      by false false type was =
          absurd
          (every-run Other Not (λ kind at t h. h) c.levels walk m
          (every-walk request.address (λ s. fault 0x07 c.fpd) (step c.fpd) Other Not (λ level t. Unit {0}) c.levels
          (λ table s _ is. let z : ◌≡◌ {A = ℕ} 0 1 = cc in omega arith) (λ n table s _ is. let z : ◌≡◌ {A = ℕ} 0 1 = cc in omega arith)
          (λ n place s e t few told. (ends c.fpd (suc n) place e t told).0) (λ level place s e next t told. tt) c.levels c.top tt
          (omega arith) tt)
          was)

  width-leaf : (c : Context) (frame k : ℕ) → run (width_rules registers request.address request.write c) m ≡ leaf frame k
      → Leads request m (entries_of is_page (width_rules registers request.address request.write c) m) c.levels frame k
  unfolding width_rules run entries_of
  width-leaf c frame k = by (leb (2 ^ min registers.mgaw (12 + 9 * c.levels)) request.address) (eqb c.translation_type 2)
    where
      walk : Rules Translation
      walk = page_rules registers request.address request.write c.fpd c.levels c.top

      by : (wide passes : Bool) → run (if wide then answer (fault 0x04 c.fpd) else if passes then answer through else walk) m ≡ leaf frame k
          → Leads request m (entries_of is_page (if wide then answer (fault 0x04 c.fpd) else if passes then answer through else walk) m) c.levels frame k
      by true passes was = let z : ◌≡◌ {A = ℕ} 0 1 = cc in absurd (omega arith)
      by false true was = let z : ◌≡◌ {A = ℕ} 0 1 = cc in absurd (omega arith)
      by false false was = reached-walk c.fpd c.levels c.top frame k was

  -- a host address in the page of its leaf
  reached : (c : Context) {entries : List ℕ} (frame k : ℕ) → run (lookup_rules registers request.source.id) m ≡ context c
      → walked registers request m ≡ entries
      → Leads request m entries c.levels frame k → Reached registers request m (host_address k frame request.address)
  reached c frame k own pages way =
      let here : Leads request m (walked registers request m) c.levels frame k = rw pages way in
      let p = here.path in
      let is : host_address k frame request.address ≡ host_address p.level (frame_of p) request.address =
      rw (here.at_level, ← here.framed) in
      record {
        own = c;
        own-context = own;
        path = p;
        address = is;
        in-page = (rw is (omega arith), rw is (omega (arith, offset-lt request.address p.level)));
      }

  abbrev Granted : ℕ → Type 0
  Granted host = Unchanged registers request m host ⊎ Reached registers request m host

  after-lookup : (host : ℕ) (l : Lookup) → run (lookup_rules registers request.source.id) m ≡ l
      → walked registers request m ≡ on_lookup l (λ reason fpd. []) (λ c. entries_of is_page (width_rules registers request.address request.write c) m)
      → (t : Translation) → on_lookup l fault (λ c. run (width_rules registers request.address request.write c) m) ≡ t
      → memory_outcome request t ≡ granted host → Granted host
  after-lookup host l own pages (fault reason fpd) is was = let z : ◌≡◌ {A = ℕ} 0 1 = cc in absurd (omega arith)
  after-lookup host (no_context reason fpd) own pages through is was = let z : ◌≡◌ {A = ℕ} 0 1 = cc in absurd (omega arith)
  after-lookup host (no_context reason fpd) own pages (leaf frame k) is was = let z : ◌≡◌ {A = ℕ} 0 1 = cc in absurd (omega arith)
  after-lookup host (context c) own pages through is was =
      let passes = width-through c is in
      inl
      (record {
        no_walk = pages ∙ passes.0;
        address = cc;
        reason = inr (record { own = c; own-context = own; type = passes.1 });
      })
  after-lookup host (context c) own pages (leaf frame k) is was =
      inr (rw (leaf-granted request frame k was).1 (reached c frame k own pages (width-leaf c frame k is)))

  abbrev rules : Rules Translation
  rules = translation_rules registers request.address request.write request.source.id

  walked-pages : taken_up ≡ admission registers (in_interrupt_range request.address) registers.te
      → walked registers request m ≡ entries_of is_page rules m
  unfolding memory_rules
  walked-pages taken = rw (← taken) (entries-map (memory_outcome request) is_page rules m)

  -- with TE off no entry is walked
  no-pages : pass ≡ admission registers (in_interrupt_range request.address) registers.te → walked registers request m ≡ []
  unfolding memory_rules entries_of
  no-pages off = rw (← off)

  switched-off : pass ≡ admission registers (in_interrupt_range request.address) registers.te → registers.te ≡ false
  unfolding admission
  switched-off = by (registers_bad registers) (in_interrupt_range request.address) registers.te
    where
      by : (bad wrong on : Bool) → pass ≡ (if bad then refusal 1 else if wrong then refusal 2 else if on then taken_up else pass) → on ≡ false
      by true wrong on h = let z : ◌≡◌ {A = ℕ} 0 1 = cc in absurd (omega arith)
      by false true on h = let z : ◌≡◌ {A = ℕ} 0 1 = cc in absurd (omega arith)
      by false false true h = let z : ◌≡◌ {A = ℕ} 0 1 = cc in absurd (omega arith)
      by false false false h = refl

  admitted : (host : ℕ) (k : Admitted) → k ≡ admission registers (in_interrupt_range request.address) registers.te
      → answer_over registers request m ≡ granted host → Granted host
  admitted host (refusal n) h was =
      let no : refused n ≡ granted host = refuses registers request m refl h ∙ was in
      let z : ◌≡◌ {A = ℕ} 0 1 = cc in
      absurd (omega arith)
  admitted host pass h was =
      let is : granted request.address ≡ granted host = passes registers request m refl h ∙ was in
      inl (record { no_walk = no-pages h; address = cc; reason = inl (switched-off h) })
  admitted host taken_up h was =
      let width = width_rules registers request.address request.write in
      after-lookup host (run (lookup_rules registers request.source.id) m) refl
      (walked-pages h ∙ pages-looked-up registers fault width m request.source.id)
      (run rules m) (sym (looked-up registers fault width m request.source.id)) (takes registers request m refl h ∙ was)

pub granted-by-own-walk : GrantedByOwnWalk
granted-by-own-walk registers request m host =
    admitted registers request m host (admission registers (in_interrupt_range request.address) registers.te) refl
