-- What every fork of a memory request's rules satisfies, and every answer: the one traversal of its tree.
use Prim.Native.Nat.{ℕ, suc, ◌%◌, ◌<◌, ◌≤◌}
use mathlib.Core.Bool.{Bool, true, false}
use mathlib.Core.Path.{◌≡◌, refl}
use native.Mathlib.Omega.{arith}
use Rattle.image.specs.Check.{Check, stop, go, on_check}
use Rattle.std.specs.Prelude.{if◌then◌else◌}
use Rattle.image.specs.EntryKind.{EntryKind}
use Rattle.image.specs.Memory.{Memory}
use Rattle.image.specs.Rules.{Rules, run, map_rules}
use Rattle.image.proofs.Forks.{Every, every-answer, every_more, every-run, every_map, every-weaken}
use Rattle.registers.specs.Admission.{Admitted, refusal, pass, taken_up, admission, on_admission, in_interrupt_range}
use Rattle.registers.specs.declared.Registers.{Registers}
use Rattle.faults.specs.Record.{memory_fault}
use Rattle.dma.specs.Context.{fault_processing_disabled}
use Rattle.dma.specs.Isolation.{access_fault}
use Rattle.dma.specs.Page.{page_check, leaf_at}
use Rattle.dma.specs.Requests.{MemoryOutcome, granted, refused, memory_outcome, memory_rules}
use Rattle.dma.specs.Translation.{Translation, through, leaf, fault, Reachable, page_step, page_rules, width_rules, translation_rules}
use Rattle.dma.specs.Walk.{Step, done, down}
use Rattle.dma.specs.declared.MemoryRequest.{MemoryRequest}
use Rattle.dma.proofs.Admissions.{taken-root}
use Rattle.dma.proofs.Cases.{width-cases}
use Rattle.dma.proofs.Leaves.{leaf-no-access}
use Rattle.dma.proofs.Lookups.{every-lookup}
use Rattle.dma.proofs.Reasons.{Otherwise, no_access, root-otherwise, context-otherwise, page-otherwise}
use Rattle.dma.proofs.Stages.{root-aligned}
use Rattle.dma.proofs.Steps.{page-frame-lt, leaf-low}
use Rattle.dma.proofs.Stepped.{leads, leads-aligned, more-levels}
use Rattle.dma.proofs.Walks.{every-walk}

-- an entry that can't be fetched is answered with an access fault; every entry is at a multiple of 8
abbrev pub Fork : EntryKind → ℕ → MemoryOutcome → Type 0
Fork kind at o = (access_fault o ≡ true) × (at % 8 ≡ 0)

-- and no other answer is an access fault
abbrev pub Ends : MemoryOutcome → Type 0
Ends o = access_fault o ≡ true → ⊥

module _ (registers : Registers) (request : MemoryRequest) where
  abbrev rules : Rules Translation
  rules = translation_rules registers request.address request.write request.source.id

  abbrev Asks : EntryKind → ℕ → Translation → Type 0
  Asks kind at t = Fork kind at (memory_outcome request t)

  -- what is answered to entries that were fetched
  abbrev Says : Translation → Type 0
  Says t = Reachable t × Ends (memory_outcome request t)

  no-grant : (host : ℕ) → Ends (granted host)
  no-grant host is = let z : ◌≡◌ {A = ℕ} 0 1 = cc in omega arith

  stops : {A : Type 0} (k : Check A) (reason : ℕ) (fpd : Bool) → Otherwise k → k ≡ stop reason → Says (fault reason fpd)
  unfolding memory_fault
  stops k reason fpd other told = (tt, no_access k reason other told)

  -- a page that the walk reaches has its frame below 2^52, and an entry of level 1, 2 or 3
  step-says : (fpd : Bool) (n place : ℕ) (s : Unit {0}) (e : ℕ) (t : Translation) → n < 5
      → done t ≡ page_step registers request.address request.write fpd (suc n) place s e → Says t
  step-says fpd n place s e t few = on (page_check registers request.write (suc n) e) (leaf_at (suc n) e) refl refl
    where
      on : (k : Check ℕ) (page : Bool) → page_check registers request.write (suc n) e ≡ k → leaf_at (suc n) e ≡ page
          → ◌≡◌ {A = Step (Unit {0}) Translation} (done t)
          (on_check k (λ r. done (fault r fpd)) (λ frame. if page then done (leaf frame (suc n)) else down frame tt))
          → Says t
      on (stop r) page told is-page h =
          let is : t ≡ fault r fpd = cc in
          rw is (stops _ r fpd (page-otherwise registers request.write (suc n) e) told)
      on (go frame) true told is-page h =
          let is : t ≡ leaf frame (suc n) = cc in
          let low = leaf-low registers request.write (suc n) e frame told is-page in
          rw is ((page-frame-lt registers request.write (suc n) e frame told, omega arith, low), leaf-no-access request frame (suc n))
      on (go frame) false told is-page h = let z : ◌≡◌ {A = ℕ} 0 1 = cc in absurd (omega arith)

  -- a table below which there are levels, at a multiple of 8
  abbrev Table : (level table : ℕ) → Type 0
  Table level table = (table % 8 ≡ 0) × (0 < level)

  walk-forks : (fpd : Bool) (levels top : ℕ) → levels ≤ 5 → Table levels top
      → Every Asks Says levels (page_rules registers request.address request.write fpd levels top)
  unfolding memory_fault
  walk-forks fpd levels top few here =
      every-walk request.address (λ s. fault 0x07 fpd) (page_step registers request.address request.write fpd) Asks Says Table 5
      (λ table s h. absurd (omega (arith, h.1))) (λ n table s h. (refl, omega (arith, h.0))) (step-says fpd)
      (λ n place s e next t told. (
        leads-aligned registers request.address request.write fpd (suc n) place s e next t told,
        more-levels n e (leads registers request.address request.write fpd (suc n) place e told).1,
      ))
      levels top tt few here

  translation-forks : registers.root_table % 4096 ≡ 0 → Every Asks Says 9 rules
  unfolding memory_fault
  translation-forks aligned =
      every-lookup Asks Says 5 registers fault (width_rules registers request.address request.write)
      request.source.id (refl, omega arith) (λ e table led. (refl, omega (arith, root-aligned registers.haw e led)))
      (λ e reason. stops _ reason false (root-otherwise registers.haw e))
      (λ e reason. stops _ reason (fault_processing_disabled e) (context-otherwise registers e))
      (λ c good.
      width-cases (Every Asks Says 5) registers request.address request.write c
      (every-answer Asks Says 5 (fault 0x04 c.fpd) (stops {A = ℕ} (stop 0x04) 0x04 c.fpd refl refl))
      (every-answer Asks Says 5 through (tt, no-grant request.address))
      (every_more Asks Says c.levels 5 _ good.1 (walk-forks c.fpd c.levels c.top good.1 (omega (arith, good.2), good.0))))

  -- what a translation is answered, it can answer
  pub reachable : (m : Memory) → registers.root_table % 4096 ≡ 0 → Reachable (run rules m)
  reachable m aligned =
      every-run Asks Reachable (λ kind at t is. faults t is.0) 9 rules m
      (every-weaken Asks Asks Says Reachable (λ kind at t h. h) (λ t h. h.0) 9 rules (translation-forks aligned))
    where
      faults : (t : Translation) → access_fault (memory_outcome request t) ≡ true → Reachable t
      faults through is = tt
      faults (leaf frame level) is = absurd (leaf-no-access request frame level is)
      faults (fault reason fpd) is = tt

  pub memory-forks : Every Fork Ends 9 (memory_rules registers request)
  unfolding memory_rules
  memory-forks = on (admission registers (in_interrupt_range request.address) registers.te) refl
    where
      on : (k : Admitted) → k ≡ admission registers (in_interrupt_range request.address) registers.te
          → Every Fork Ends 9 (on_admission k refused (granted request.address) (map_rules (memory_outcome request) rules))
      on (refusal n) h = every-answer Fork Ends 9 (refused n) (λ is. let z : ◌≡◌ {A = ℕ} 0 1 = cc in omega arith)
      on pass h = every-answer Fork Ends 9 (granted request.address) (no-grant request.address)
      on taken_up taken =
          every_map (memory_outcome request) Fork Ends 9 rules
          (every-weaken Asks Asks Says (λ t. Ends (memory_outcome request t)) (λ kind at t h. h) (λ t h. h.1) 9 rules
          (translation-forks (taken-root registers _ registers.te taken)))
