-- Entries of memory requests.
use Prim.Native.Nat.{ℕ, suc, ◌<◌}
use mathlib.Core.Bool.{Bool, true, false, not}
use mathlib.Core.List.{List}
use mathlib.Core.Path.{◌≡◌, refl, ap, sym, ◌∙◌, subst}
use native.Mathlib.Omega.{arith}
use lib.Dec.{eqb}
use lib.ListN.{length}
use Rattle.image.specs.Bits.{any_set}
use Rattle.image.specs.Check.{Check, stop, go, on_check}
use Rattle.std.specs.Prelude.{if◌then◌else◌}
use Rattle.image.specs.EntryKind.{EntryKind}
use Rattle.image.specs.Memory.{Memory}
use Rattle.image.specs.Place.{Place, no_entry, stopped_at}
use Rattle.image.specs.Rules.{Rules, run, map_rules}
use Rattle.image.specs.Windows.{bad_windows, of_windows}
use Rattle.image.proofs.Choices.{either}
use Rattle.image.proofs.Forks.{Every, every-answer, every_more, every-run}
use Rattle.image.proofs.Trees.{run-map}
use Rattle.registers.specs.Admission.{Admitted, admission, on_admission, in_interrupt_range}
use Rattle.registers.specs.Registers.{registers_bad}
use Rattle.registers.specs.declared.Registers.{Registers}
use Rattle.faults.specs.Record.{memory_record, memory_fault}
use Rattle.dma.specs.InterruptRange.{meets_interrupt_range, span_at}
use Rattle.dma.specs.Page.{denied, own_right, leaf_at, page_reserved, page_check}
use Rattle.dma.specs.Requests.{MemoryOutcome, granted, blocked, refused, memory_outcome, memory_rules, concerned, memory_answer, memory_answer_place}
use Rattle.dma.specs.Translation.{Translation, through, leaf, fault, page_step, width_rules, translation_rules}
use Rattle.dma.specs.Walk.{Step, done, down}
use Rattle.dma.specs.declared.MemoryRequest.{MemoryRequest}
use Rattle.dma.proofs.Cases.{width-cases}
use Rattle.dma.proofs.Lookups.{every-lookup}
use Rattle.dma.proofs.Walks.{every-walk}
use Rattle.traced.specs.Well.{well_traced, well_reason}
use Rattle.answered.specs.Answered.{plain, kind_of, fault_traced, memory_traced}
use Rattle.answered.specs.Claims.{memory_entry}
use Rattle.answered.specs.Told.{memory_in, memory_outcome_in, concerned_in, fault_in}
use Rattle.answered.proofs.Faults.{Stops, tested, root-stops, context-stops, fault-place, fault-told, fault-well, fault-cases}

-- 01h to 0Ch, of a read and of a write
abbrev Reason : ℕ → Type 0
Reason n = (well_reason (plain 1 0 0 0 2 n 0 0) ≡ true) × (well_reason (plain 2 0 0 0 2 n 0 0) ≡ true)

abbrev Says : Translation → Type 0
Says through = Unit {0}
Says (leaf frame level) = Unit {0}
Says (fault reason fpd) = Reason reason

denied-reason : (write : Bool) → Reason (denied write)
denied-reason true = (refl, refl)
denied-reason false = (refl, refl)

page-stops : (registers : Registers) (write : Bool) (level e : ℕ) → Stops Reason (page_check registers write level e)
unfolding page_check
page-stops registers write level e =
    tested Reason (not (any_set e 1 0)) (denied write) _ (denied-reason write)
    (tested Reason (page_reserved registers level e) 0x0C _ (refl, refl)
    (tested Reason (not (own_right write e)) (denied write) _ (denied-reason write) tt))

module _ (registers : Registers) (q : MemoryRequest) where
  abbrev rules : Rules Translation
  rules = translation_rules registers q.address q.write q.source.id

  abbrev Fork : EntryKind → ℕ → Translation → Type 0
  Fork kind at t = Says t

  step-says : (fpd : Bool) (n place : ℕ) (s : Unit {0}) (e : ℕ) (t : Translation) → n < 5
      → done t ≡ page_step registers q.address q.write fpd (suc n) place s e → Says t
  step-says fpd n place s e t few = on (page_check registers q.write (suc n) e) (leaf_at (suc n) e) (page-stops registers q.write (suc n) e)
    where
      on : (k : Check ℕ) (page : Bool) → Stops Reason k
          → ◌≡◌ {A = Step (Unit {0}) Translation} (done t)
          (on_check k (λ r. done (fault r fpd)) (λ frame. if page then done (leaf frame (suc n)) else down frame tt))
          → Says t
      on (stop r) page good h = let is : t ≡ fault r fpd = cc in rw is good
      on (go frame) true good h = let is : t ≡ leaf frame (suc n) = cc in rw is tt
      on (go frame) false good h = let z : ◌≡◌ {A = ℕ} 0 1 = cc in absurd (omega arith)

  translation-says : (m : Memory) → Says (run rules m)
  translation-says m =
      every-run Fork Says (λ kind at t is. is) 9 rules m
      (every-lookup Fork Says 5 registers fault (width_rules registers q.address q.write) q.source.id
      (refl, refl) (λ e table led. (refl, refl))
      (λ e reason told. subst (Stops Reason) told (root-stops Reason (refl, refl) (refl, refl) registers.haw e))
      (λ e reason told. subst (Stops Reason) told (context-stops Reason (refl, refl) (refl, refl) (refl, refl) registers e))
      (λ c good.
      width-cases (Every Fork Says 5) registers q.address q.write c
      (every-answer Fork Says 5 (fault 0x04 c.fpd) (refl, refl))
      (every-answer Fork Says 5 through tt)
      (every_more Fork Says c.levels 5 _ good.1
      (every-walk q.address (λ s. fault 0x07 c.fpd) (page_step registers q.address q.write c.fpd) Fork Says (λ level table. Unit {0}) 5
      (λ table s h. (refl, refl)) (λ n table s h. (refl, refl)) (step-says c.fpd) (λ n place s e next t h. tt)
      c.levels c.top tt good.1 tt))))

  -- what an answer is: a refusal's number, a fault's reason and record
  abbrev Answers : MemoryOutcome → Type 0
  Answers (granted host) = Unit {0}
  Answers (blocked f) = Reason f.reason × (f.contents ≡ memory_record q.source.id q.address f.reason (not q.write))
  Answers (refused n) = (well_traced (plain 1 0 0 0 1 n 0 0) ≡ true) × (well_traced (plain 2 0 0 0 1 n 0 0) ≡ true)

  outcome-answers : (t : Translation) → Says t → Answers (memory_outcome q t)
  unfolding memory_fault well_traced
  outcome-answers through h = tt
  outcome-answers (leaf frame level) h = either Answers (meets_interrupt_range frame (span_at level)) (refl, refl) tt
  outcome-answers (fault reason fpd) h = (h, refl)

  answers : (m : Memory) → Answers (run (memory_rules registers q) m)
  unfolding memory_rules admission run well_traced
  answers m =
      either By (registers_bad registers) (refl, refl)
      (either By (in_interrupt_range q.address) (refl, refl)
      (either By registers.te (subst Answers (sym (run-map (memory_outcome q) rules m)) (outcome-answers (run rules m) (translation-says m))) tt))
    where
      By : Admitted → Type 0
      By k = Answers (run (on_admission k refused (granted q.address) (map_rules (memory_outcome q) rules)) m)

  -- of such an answer
  well : (o : MemoryOutcome) (p : Place) → Answers o → well_traced (memory_traced q o (concerned o p)) ≡ true
  unfolding memory_traced well_traced
  well (granted host) p h = by q.write
    where
      by : (write : Bool) → well_traced (plain (kind_of write) q.source.id q.address 0 3 0 0 host) ≡ true
      by true = refl
      by false = refl
  well (blocked f) p h = by q.write
    where
      by : (write : Bool) → well_traced (fault_traced (kind_of write) q.source.id q.address 0 f p) ≡ true
      by true = fault-well 2 q.source.id q.address 0 f p refl h.0.1
      by false = fault-well 1 q.source.id q.address 0 f p refl h.0.0
  well (refused n) p h = by q.write
    where
      by : (write : Bool) → well_traced (plain (kind_of write) q.source.id q.address 0 1 n 0 0) ≡ true
      by true = h.1
      by false = h.0

  abbrev Told : MemoryOutcome → Place → Type 0
  Told o p =
      (memory_in (memory_traced q o p) ≡ q) × (memory_outcome_in (memory_traced q o p) ≡ o) × (concerned_in (memory_traced q o p) ≡ p)

  write-told : (write : Bool) → eqb (kind_of write) 2 ≡ write
  write-told true = refl
  write-told false = refl

  request-told : ◌≡◌ {A = MemoryRequest} (record { source = q.source; address = q.address; write = eqb (kind_of q.write) 2 }) q
  request-told = rw (write-told q.write)

  told : (o : MemoryOutcome) (p : Place) → Answers o → Told o (concerned o p)
  unfolding memory_traced
  told (granted host) p h = (request-told, refl, refl)
  told (refused n) p h = (request-told, refl, refl)
  told (blocked f) p h =
      let kind = kind_of q.write in
      let e = fault_traced kind q.source.id q.address 0 f p in
      let record-told : (flags value : ℕ) → memory_outcome_in (plain kind q.source.id q.address 0 2 f.reason flags value)
      ≡ blocked (fault_in (plain kind q.source.id q.address 0 2 f.reason flags value) f.contents) =
      λ flags value. rw (write-told q.write, h.1) in (
        fault-cases kind q.source.id q.address 0 (λ e. memory_in e ≡ q) f p (λ flags value. request-told),
        fault-cases kind q.source.id q.address 0 (λ e. memory_outcome_in e ≡ blocked (fault_in e f.contents)) f p record-told
            ∙ ap blocked (fault-told kind q.source.id q.address 0 f p),
        fault-place kind q.source.id q.address 0 f p,
      )

  module _ (windows bytes : List ℕ) where
    -- an answer over lent memory, with the entry concerned in it
    lent : (P : MemoryOutcome → Place → Type 0) → ((o : MemoryOutcome) (p : Place) → Answers o → P o (concerned o p))
        → P (memory_answer registers q windows bytes) (memory_answer_place registers q windows bytes)
    unfolding well_traced
    lent P h = by (bad_windows windows (length bytes))
      where
        m : Memory
        m = of_windows windows bytes

        o : MemoryOutcome
        o = run (memory_rules registers q) m

        by : (bad : Bool) → P (if bad then refused 1 else o) (if bad then no_entry else concerned o (stopped_at (memory_rules registers q) m))
        by true = h (refused 1) no_entry (refl, refl)
        by false = h o (stopped_at (memory_rules registers q) m) (answers m)

    pub memory-well : well_traced (memory_entry registers windows bytes q) ≡ true
    unfolding memory_entry
    memory-well = lent (λ o p. well_traced (memory_traced q o p) ≡ true) well

    pub memory-told : (memory_in (memory_entry registers windows bytes q) ≡ q)
        × (memory_outcome_in (memory_entry registers windows bytes q) ≡ memory_answer registers q windows bytes)
        × (concerned_in (memory_entry registers windows bytes q) ≡ memory_answer_place registers q windows bytes)
    unfolding memory_entry
    memory-told = lent Told told
