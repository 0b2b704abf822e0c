-- Requests that translate by the tables that were built: what they are answered before and after is decided by the page over their address.
use Prim.Native.Nat.{ℕ, suc, ◌+◌, ◌*◌, ◌/◌, ◌^◌, ◌≤◌, ◌<◌, min}
use mathlib.Core.Bool.{Bool, true, false, ◌||◌}
use mathlib.Core.Path.{◌≡◌, refl, ap, ap₂, sym, ◌∙◌}
use mathlib.Core.List.{List, Memᴰ}
use native.Mathlib.Omega.{arith}
use borrow.Author.Tests.{leb-false}
use lib.Dec.{eqb}
use lib.ListN.{length}
use lib.Pow.{pow_mono}
use Rattle.std.specs.Prelude.{if◌then◌else◌}
use Rattle.image.specs.EntryKind.{EntryKind, is_page}
use Rattle.image.specs.Memory.{Memory}
use Rattle.image.specs.Place.{Place, no_entry, entry_at, last_tried, stopped_at}
use Rattle.image.specs.Rules.{Rules, answer, run, entries_of}
use Rattle.image.proofs.Forks.{every-answer, every-entry}
use Rattle.registers.specs.Admission.{Admitted, refusal, pass, taken_up, admission, in_interrupt_range}
use Rattle.registers.specs.declared.Registers.{Registers}
use Rattle.registers.proofs.Good.{good}
use Rattle.faults.specs.Record.{memory_fault}
use Rattle.dma.specs.Lookup.{Lookup, context, no_context, on_lookup, context_rules, root_rules, lookup_rules}
use Rattle.dma.specs.Requests.{MemoryOutcome, memory_outcome, memory_rules, memory_place, concerned}
use Rattle.dma.specs.Page.{denied}
use Rattle.dma.specs.Translation.{fault, through, overflows, page_rules, width_rules, translation_rules}
use Rattle.dma.specs.declared.context.Context.{Context}
use Rattle.dma.specs.declared.MemoryRequest.{MemoryRequest}
use Rattle.dma.proofs.Admissions.{refuses, passes, takes, takes_at_lem}
use Rattle.dma.proofs.Lookups.{every-lookup, looked-up, looked-up-at}
use Rattle.translation.specs.Completion.{Completion, empty, joined_rules, type_rules, completion_rules}
use Rattle.translation.specs.Completion as completion
use Rattle.translation.specs.Requests.{TranslationOutcome, translation_outcome, request_rules, translation_place}
use Rattle.translation.specs.Requests as translation
use Rattle.translation.specs.Rights.{both}
use Rattle.translation.specs.declared.TranslationRequest.{TranslationRequest}
use Rattle.translation.proofs.Admissions as translation-admissions
use Rattle.tables.specs.Tables.{present}
use Rattle.tables.specs.Way.{way}
use Rattle.tables.specs.declared.Tree.{Tree}
use Rattle.leaves.specs.Leaves.{Leaf, leaf_over, leaf_place, left}
use Rattle.leaves.specs.Leaves as leaves
use Rattle.built.specs.Claims.{Unlisted, lacks_rights}
use Rattle.built.proofs.Formats.{translated_by, completed_by, memory-by-leaf, translation-by-leaf}
use Rattle.built.proofs.Others.{lookup-unmoved}
use Rattle.built.proofs.Setting.{Setting}
use Rattle.built.proofs.Unmoved.{Unmoved, only-answer}

-- a page whose entry stays where it is
stays : (bytes bytes' : List ℕ) (tree : Tree) (q : ℕ) → leaf_place bytes' tree q ≡ leaf_place bytes tree q → (below e : ℕ)
    → leaf_over bytes tree q ≡ leaves.leaf below e → (way bytes' tree q 0).at ≡ (way bytes tree q 0).at
unfolding leaf_place leaf_over
stays bytes bytes' tree q same below e is =
    by (present (way bytes' tree q 0).entry) (present (way bytes tree q 0).entry) same is
  where
    by : (t' t : Bool)
        → (if t' then entry_at (way bytes' tree q 0).at else no_entry) ≡ (if t then entry_at (way bytes tree q 0).at else no_entry)
        → (if t then leaves.leaf (way bytes tree q 0).below (way bytes tree q 0).entry else leaves.none) ≡ leaves.leaf below e
        → (way bytes' tree q 0).at ≡ (way bytes tree q 0).at
    by true true h k = cc
    by false true h k = let z : ◌≡◌ {A = ℕ} 0 1 = cc in absurd (omega arith)
    by t' false h k = let z : ◌≡◌ {A = ℕ} 0 1 = cc in absurd (omega arith)

-- a request that doesn't lack rights has the same entry concerned, if the walk stops at the same page
same_place : (request : MemoryRequest) (fpd : Bool) (registers : Registers) (over : Leaf) (p' p : Place)
    → ((below e : ℕ) → over ≡ leaves.leaf below e → p' ≡ p)
    → lacks_rights (memory_outcome request (translated_by registers request.write fpd over)) ≡ false
    → concerned (memory_outcome request (translated_by registers request.write fpd over)) p'
    ≡ concerned (memory_outcome request (translated_by registers request.write fpd over)) p
unfolding memory_fault
same_place request fpd registers over p' p stay = by over stay
  where
    lost : (write : Bool) → (eqb (denied write) 0x05 || eqb (denied write) 0x06) ≡ true
    lost true = refl
    lost false = refl

    by : (over : Leaf) → ((below e : ℕ) → over ≡ leaves.leaf below e → p' ≡ p)
        → lacks_rights (memory_outcome request (translated_by registers request.write fpd over)) ≡ false
        → concerned (memory_outcome request (translated_by registers request.write fpd over)) p'
        ≡ concerned (memory_outcome request (translated_by registers request.write fpd over)) p
    by leaves.none stay h =
        let z : ◌≡◌ {A = Bool} true false = sym (lost request.write) ∙ h in
        let y : ◌≡◌ {A = ℕ} 0 1 = cc in
        absurd (omega arith)
    by (leaves.leaf below e) stay h =
        ap (concerned (memory_outcome request (translated_by registers request.write fpd (leaves.leaf below e)))) (stay below e refl)

-- so has every translation request: where there is no page it has none
same-place-asked : (request : TranslationRequest) (fpd : Bool) (registers : Registers) (over : Leaf) (p' p : Place)
    → ((below e : ℕ) → over ≡ leaves.leaf below e → p' ≡ p)
    → translation.concerned (translation_outcome request (completed_by registers fpd over)) p'
    ≡ translation.concerned (translation_outcome request (completed_by registers fpd over)) p
same-place-asked request fpd registers leaves.none p' p stay = refl
same-place-asked request fpd registers (leaves.leaf below e) p' p stay =
    ap (translation.concerned (translation_outcome request (completed_by registers fpd (leaves.leaf below e)))) (stay below e refl)

module _ (registers : Registers) (start size : ℕ) (items : List ℕ) (own : Context) (m m' : Memory) (s : Setting registers start size items own m m') where
  haw : registers.haw ≤ 52
  haw = (good registers s.listed).haw.most

  -- the lookup of any source
  pub lookup-same : (source : ℕ) → Unmoved m m' (lookup_rules registers source)
  unfolding root_rules context_rules entries_of
  lookup-same source =
      lookup-unmoved registers start size s.some m m' s.unshared s.kept s.gone no_context (λ c. answer (context c)) source
      (λ c alike. only-answer m m' (context c)) (λ at among. absurd (none_read at among))
    where
      NoPage : EntryKind → ℕ → Lookup → Type 0
      NoPage kind at l = is_page kind ≡ false

      differ : {t : Bool} → t ≡ false → t ≡ true → ⊥
      differ p q = let z : ◌≡◌ {A = Bool} true false = sym q ∙ p in let y : ◌≡◌ {A = ℕ} 0 1 = cc in omega arith

      none_read : (at : ℕ) → Memᴰ at (entries_of is_page (lookup_rules registers source) m) → ⊥
      none_read at among =
          every-entry NoPage (λ l. Unit {0}) is_page (λ at. ⊥) (λ kind at l no is. differ no is) 4 (lookup_rules registers source) m at
          (every-lookup NoPage (λ l. Unit {0}) 0 registers no_context (λ c. answer (context c)) source refl (λ e table told. refl) (λ e reason told. tt)
          (λ e reason told. tt) (λ c usable. every-answer NoPage (λ l. Unit {0}) 0 (context c) tt))
          among

  module _ (its : Context) (top : its.top ≡ own.top) (levels : its.levels ≡ own.levels) (address : ℕ) where
    -- the page over an address, before and after
    abbrev pub over : Leaf
    over = leaf_over s.copy s.tree address

    abbrev pub over' : Leaf
    over' = left items (length items / 4) 0 address over

    levels-is : its.levels ≡ suc s.tree.below
    levels-is = levels ∙ s.levels-are

    top-is : its.top ≡ s.tree.start + s.tree.top
    top-is = top ∙ s.top-is

    reach : overflows registers its.levels address ≡ false → address < 2 ^ (12 + 9 * (s.tree.below + 1))
    reach narrow =
        let below = leb-false (2 ^ min registers.mgaw (12 + 9 * its.levels)) address narrow in
        let more : 2 ^ min registers.mgaw (12 + 9 * its.levels) ≤ 2 ^ (12 + 9 * (s.tree.below + 1)) =
        pow_mono {i = min registers.mgaw (12 + 9 * its.levels)} {j = 12 + 9 * (s.tree.below + 1)} (omega (arith, levels-is)) in
        omega arith

    pub memory-before : (write fpd : Bool) → run (page_rules registers address write fpd its.levels its.top) m ≡ translated_by registers write fpd over
    memory-before write fpd =
        rw (levels-is, top-is) (memory-by-leaf registers haw m s.copy s.marks s.tree s.well s.shown s.fits address write fpd).0

    pub memory-after : overflows registers its.levels address ≡ false → (write fpd : Bool)
        → run (page_rules registers address write fpd its.levels its.top) m' ≡ translated_by registers write fpd over'
    memory-after narrow write fpd =
        let walks = (memory-by-leaf registers haw m' s.copy' s.marks' s.tree s.well' s.shown' s.fits' address write fpd).0 in
        rw (levels-is, top-is) (walks ∙ ap (translated_by registers write fpd) (s.leaves address (reach narrow)))

    pub translation-before : (fpd : Bool) → run (joined_rules registers address fpd its.levels its.top both) m ≡ completed_by registers fpd over
    translation-before fpd =
        rw (levels-is, top-is) (translation-by-leaf registers haw m s.copy s.marks s.tree s.well s.shown s.fits address fpd).0

    pub translation-after : overflows registers its.levels address ≡ false → (fpd : Bool)
        → run (joined_rules registers address fpd its.levels its.top both) m' ≡ completed_by registers fpd over'
    translation-after narrow fpd =
        let walks = (translation-by-leaf registers haw m' s.copy' s.marks' s.tree s.well' s.shown' s.fits' address fpd).0 in
        rw (levels-is, top-is) (walks ∙ ap (completed_by registers fpd) (s.leaves address (reach narrow)))

    -- the entry at which a walk stops: that of a page stays
    abbrev stops_at : Place
    stops_at = entry_at (s.tree.start + (way s.copy s.tree address 0).at)

    abbrev stops_at' : Place
    stops_at' = entry_at (s.tree.start + (way s.copy' s.tree address 0).at)

    page-stays : overflows registers its.levels address ≡ false → Unlisted items address → (below e : ℕ) → over ≡ leaves.leaf below e → stops_at' ≡ stops_at
    page-stays narrow off below e is =
        ap (λ (n : ℕ). entry_at (s.tree.start + n))
        (stays s.copy s.copy' s.tree address (s.places address (reach narrow) off) below e is)

    memory-at-before : (write fpd : Bool) (before : Place) → last_tried before (page_rules registers address write fpd its.levels its.top) m ≡ stops_at
    memory-at-before write fpd =
        rw (levels-is, top-is) (memory-by-leaf registers haw m s.copy s.marks s.tree s.well s.shown s.fits address write fpd).1

    memory-at-after : (write fpd : Bool) (before : Place) → last_tried before (page_rules registers address write fpd its.levels its.top) m' ≡ stops_at'
    memory-at-after write fpd =
        rw (levels-is, top-is) (memory-by-leaf registers haw m' s.copy' s.marks' s.tree s.well' s.shown' s.fits' address write fpd).1

    translation-at-before : (fpd : Bool) (before : Place) → last_tried before (joined_rules registers address fpd its.levels its.top both) m ≡ stops_at
    translation-at-before fpd =
        rw (levels-is, top-is) (translation-by-leaf registers haw m s.copy s.marks s.tree s.well s.shown s.fits address fpd).1

    translation-at-after : (fpd : Bool) (before : Place) → last_tried before (joined_rules registers address fpd its.levels its.top both) m' ≡ stops_at'
    translation-at-after fpd =
        rw (levels-is, top-is) (translation-by-leaf registers haw m' s.copy' s.marks' s.tree s.well' s.shown' s.fits' address fpd).1

  -- a request that translates by these tables
  module _ (its : Context) (top : its.top ≡ own.top) (levels : its.levels ≡ own.levels) (translates : eqb its.translation_type 2 ≡ false) where
    module _ (request : MemoryRequest) (found-its : run (lookup_rules registers request.source.id) m ≡ context its) where
      abbrev address : ℕ
      address = request.address

      abbrev write : Bool
      write = request.write

      abbrev source : ℕ
      source = request.source.id

      abbrev rules : Rules MemoryOutcome
      rules = memory_rules registers request

      found_after : run (lookup_rules registers source) m' ≡ context its
      found_after = (lookup-same source).answers ∙ found-its

      -- over either memory what follows the lookup decides
      follows : (k : Memory) → run (lookup_rules registers source) k ≡ context its
          → run (translation_rules registers address write source) k ≡ run (width_rules registers address write its) k
      follows k is =
          looked-up registers fault (width_rules registers address write) k source
          ∙ ap (λ (l : Lookup). on_lookup l fault (λ c. run (width_rules registers address write c) k)) is

      follows-at : (k : Memory) → run (lookup_rules registers source) k ≡ context its
          → stopped_at (translation_rules registers address write source) k
          ≡ last_tried (last_tried no_entry (lookup_rules registers source) k) (width_rules registers address write its) k
      follows-at k is =
          looked-up-at registers fault (width_rules registers address write) k source no_entry
          ∙ ap
          (λ (l : Lookup).
          on_lookup l (λ reason fpd. last_tried no_entry (lookup_rules registers source) k)
          (λ c. last_tried (last_tried no_entry (lookup_rules registers source) k) (width_rules registers address write c) k)) is

      walks : overflows registers its.levels address ≡ false → (k : Memory)
          → run (width_rules registers address write its) k ≡ run (page_rules registers address write its.fpd its.levels its.top) k
      unfolding width_rules
      walks narrow k = rw (narrow, translates)

      pub memory-listed : taken_up ≡ admission registers (in_interrupt_range address) registers.te → overflows registers its.levels address ≡ false
          → run rules m' ≡ memory_outcome request (translated_by registers write its.fpd (over' its top levels address))
      memory-listed taken narrow =
          sym (takes registers request m' refl taken)
          ∙ ap (memory_outcome request) (follows m' found_after ∙ walks narrow m' ∙ memory-after its top levels address narrow write its.fpd)

      -- where the list leaves the page as it was
      module _ (same : over' its top levels address ≡ over its top levels address) where
        width_same : run (width_rules registers address write its) m' ≡ run (width_rules registers address write its) m
        unfolding width_rules run
        width_same = by (overflows registers its.levels address) refl
          where
            by : (t : Bool) → overflows registers its.levels address ≡ t
                → run (if t then answer (fault 0x04 its.fpd)
                else if eqb its.translation_type 2 then answer through else page_rules registers address write its.fpd its.levels its.top) m'
                ≡ run (if t then answer (fault 0x04 its.fpd)
                else if eqb its.translation_type 2 then answer through else page_rules registers address write its.fpd its.levels its.top) m
            by true is = refl
            by false is =
                rw translates
                (memory-after its top levels address is write its.fpd ∙ ap (translated_by registers write its.fpd) same
                ∙ sym (memory-before its top levels address write its.fpd))

        pub memory-same : run rules m' ≡ run rules m
        memory-same = by (admission registers (in_interrupt_range address) registers.te) refl
          where
            by : (a : Admitted) → admission registers (in_interrupt_range address) registers.te ≡ a → run rules m' ≡ run rules m
            by (refusal n) is = sym (refuses registers request m' refl (sym is)) ∙ refuses registers request m refl (sym is)
            by pass is = sym (passes registers request m' refl (sym is)) ∙ passes registers request m refl (sym is)
            by taken_up is =
                sym (takes registers request m' refl (sym is)) ∙ ap (memory_outcome request) (follows m' found_after ∙ width_same ∙ sym (follows m found-its))
                ∙ takes registers request m refl (sym is)

        pub memory-place-same : Unlisted items address → lacks_rights (run rules m) ≡ false → memory_place registers request m' ≡ memory_place registers request m
        unfolding width_rules last_tried
        memory-place-same off held = by (admission registers (in_interrupt_range address) registers.te) refl
          where
            by : (a : Admitted) → admission registers (in_interrupt_range address) registers.te ≡ a → memory_place registers request m' ≡ memory_place registers request m
            by (refusal n) is = rw (← refuses registers request m' refl (sym is), ← refuses registers request m refl (sym is))
            by pass is = rw (← passes registers request m' refl (sym is), ← passes registers request m refl (sym is))
            by taken_up is = wide (overflows registers its.levels address) refl
              where
                looked : last_tried no_entry (lookup_rules registers source) m' ≡ last_tried no_entry (lookup_rules registers source) m
                looked = (lookup-same source).stops no_entry

                stops_at_lem : (k : Memory) → run (lookup_rules registers source) k ≡ context its
                    → stopped_at rules k ≡ last_tried (last_tried no_entry (lookup_rules registers source) k) (width_rules registers address write its) k
                stops_at_lem k lk = sym (takes_at_lem registers request k refl (sym is)) ∙ follows-at k lk

                wide : (t : Bool) → overflows registers its.levels address ≡ t → memory_place registers request m' ≡ memory_place registers request m
                wide true over-it =
                    let at : (k : Memory) → run (lookup_rules registers source) k ≡ context its → stopped_at rules k ≡ last_tried no_entry (lookup_rules registers source) k =
                    λ k lk. stops_at_lem k lk ∙ rw over-it in
                    ap₂ concerned memory-same (at m' found_after ∙ looked ∙ sym (at m found-its))
                wide false narrow =
                    let told : run rules m ≡ memory_outcome request (translated_by registers write its.fpd (over its top levels address)) =
                    sym (takes registers request m refl (sym is))
                    ∙ ap (memory_outcome request) (follows m found-its ∙ walks narrow m ∙ memory-before its top levels address write its.fpd) in
                    let at : stopped_at rules m ≡ stops_at its top levels address =
                    stops_at_lem m found-its ∙ rw (narrow, translates) (memory-at-before its top levels address write its.fpd _) in
                    let at' : stopped_at rules m' ≡ stops_at' its top levels address =
                    stops_at_lem m' found_after ∙ rw (narrow, translates) (memory-at-after its top levels address write its.fpd _) in
                    rw (memory-same, told, at, at')
                    (same_place request its.fpd registers (over its top levels address) (stops_at' its top levels address) (stops_at its top levels address)
                    (page-stays its top levels address narrow off) (rw told at held))

    module _ (request : TranslationRequest) (found-its : run (lookup_rules registers request.source.id) m ≡ context its) where
      abbrev taddress : ℕ
      taddress = request.address

      abbrev tsource : ℕ
      tsource = request.source.id

      completes : (k : Memory) → run (lookup_rules registers tsource) k ≡ context its
          → run (completion_rules registers taddress tsource) k ≡ run (type_rules registers taddress its) k
      completes k is =
          looked-up registers completion.fault (type_rules registers taddress) k tsource
          ∙ ap (λ (l : Lookup). on_lookup l completion.fault (λ c. run (type_rules registers taddress c) k)) is

      found-then : run (lookup_rules registers tsource) m' ≡ context its
      found-then = (lookup-same tsource).answers ∙ found-its

      joins : overflows registers its.levels taddress ≡ false → eqb its.translation_type 0 ≡ false → (k : Memory)
          → run (type_rules registers taddress its) k ≡ run (joined_rules registers taddress its.fpd its.levels its.top both) k
      unfolding type_rules
      joins narrow type k = rw (type, translates, narrow)

      pub translation-listed : taken_up ≡ admission registers (in_interrupt_range taddress) registers.te → overflows registers its.levels taddress ≡ false
          → eqb its.translation_type 0 ≡ false
          → run (request_rules registers request) m' ≡ translation_outcome request (completed_by registers its.fpd (over' its top levels taddress))
      translation-listed taken narrow type =
          sym (translation-admissions.takes registers request m' refl taken)
          ∙ ap (translation_outcome request) (completes m' found-then ∙ joins narrow type m' ∙ translation-after its top levels taddress narrow its.fpd)

      module _ (same : over' its top levels taddress ≡ over its top levels taddress) where
        type-same : run (type_rules registers taddress its) m' ≡ run (type_rules registers taddress its) m
        unfolding type_rules run
        type-same = by (eqb its.translation_type 0 || eqb its.translation_type 2) (overflows registers its.levels taddress) refl
          where
            rules-by : (u t : Bool) → Rules Completion
            rules-by u t =
                if u then answer (completion.fault 0x0D its.fpd) else if t then answer empty else joined_rules registers taddress its.fpd its.levels its.top both

            by : (u t : Bool) → overflows registers its.levels taddress ≡ t → run (rules-by u t) m' ≡ run (rules-by u t) m
            by true t is = refl
            by false true is = refl
            by false false is =
                translation-after its top levels taddress is its.fpd ∙ ap (completed_by registers its.fpd) same
                ∙ sym (translation-before its top levels taddress its.fpd)

        pub translation-same : run (request_rules registers request) m' ≡ run (request_rules registers request) m
        translation-same = by (admission registers (in_interrupt_range taddress) registers.te) refl
          where
            by : (a : Admitted) → admission registers (in_interrupt_range taddress) registers.te ≡ a
                → run (request_rules registers request) m' ≡ run (request_rules registers request) m
            by (refusal n) is = sym (translation-admissions.refuses registers request m' refl (sym is)) ∙ translation-admissions.refuses registers request m refl (sym is)
            by pass is = sym (translation-admissions.passes registers request m' refl (sym is)) ∙ translation-admissions.passes registers request m refl (sym is)
            by taken_up is =
                sym (translation-admissions.takes registers request m' refl (sym is))
                ∙ ap (translation_outcome request) (completes m' found-then ∙ type-same ∙ sym (completes m found-its))
                ∙ translation-admissions.takes registers request m refl (sym is)

        pub translation-place-same : Unlisted items taddress → translation_place registers request m' ≡ translation_place registers request m
        unfolding type_rules last_tried
        translation-place-same off = by (admission registers (in_interrupt_range taddress) registers.te) refl
          where
            asks : Rules TranslationOutcome
            asks = request_rules registers request

            by : (a : Admitted) → admission registers (in_interrupt_range taddress) registers.te ≡ a
                → translation_place registers request m' ≡ translation_place registers request m
            by (refusal n) is =
                rw (← translation-admissions.refuses registers request m' refl (sym is), ← translation-admissions.refuses registers request m refl (sym is))
            by pass is =
                rw (← translation-admissions.passes registers request m' refl (sym is), ← translation-admissions.passes registers request m refl (sym is))
            by taken_up is =
                type (eqb its.translation_type 0) refl (overflows registers its.levels taddress) refl
              where
                stops_at_lem : (k : Memory) → run (lookup_rules registers tsource) k ≡ context its
                    → stopped_at asks k ≡ last_tried (last_tried no_entry (lookup_rules registers tsource) k) (type_rules registers taddress its) k
                stops_at_lem k lk =
                    sym (translation-admissions.takes_at_lem registers request k refl (sym is))
                    ∙ looked-up-at registers completion.fault (type_rules registers taddress) k tsource no_entry
                    ∙ ap
                    (λ (l : Lookup).
                    on_lookup l (λ reason fpd. last_tried no_entry (lookup_rules registers tsource) k)
                    (λ c. last_tried (last_tried no_entry (lookup_rules registers tsource) k) (type_rules registers taddress c) k)) lk

                at-lookup : ((k : Memory) → run (lookup_rules registers tsource) k ≡ context its → stopped_at asks k ≡ last_tried no_entry (lookup_rules registers tsource) k)
                    → translation_place registers request m' ≡ translation_place registers request m
                at-lookup at =
                    ap₂ translation.concerned translation-same (at m' found-then ∙ (lookup-same tsource).stops no_entry ∙ sym (at m found-its))

                type : (u : Bool) → eqb its.translation_type 0 ≡ u → (t : Bool) → overflows registers its.levels taddress ≡ t
                    → translation_place registers request m' ≡ translation_place registers request m
                type true zero-it t wide = at-lookup (λ k lk. stops_at_lem k lk ∙ rw zero-it)
                type false other true wide = at-lookup (λ k lk. stops_at_lem k lk ∙ rw (other, translates, wide))
                type false other false narrow =
                    let told : run asks m ≡ translation_outcome request (completed_by registers its.fpd (over its top levels taddress)) =
                    sym (translation-admissions.takes registers request m refl (sym is))
                    ∙ ap (translation_outcome request) (completes m found-its ∙ joins narrow other m ∙ translation-before its top levels taddress its.fpd) in
                    let at : stopped_at asks m ≡ stops_at its top levels taddress =
                    stops_at_lem m found-its ∙ rw (other, translates, narrow) (translation-at-before its top levels taddress its.fpd _) in
                    let at' : stopped_at asks m' ≡ stops_at' its top levels taddress =
                    stops_at_lem m' found-then ∙ rw (other, translates, narrow) (translation-at-after its top levels taddress its.fpd _) in
                    rw (translation-same, told, at, at')
                    (same-place-asked request its.fpd registers (over its top levels taddress) (stops_at' its top levels taddress) (stops_at its top levels taddress)
                    (page-stays its top levels taddress narrow off))
