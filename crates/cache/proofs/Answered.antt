-- The second engine over a lent state, by what becomes of a request at admission and by whether something held answers.
use Prim.Native.Nat.{ℕ, ◌<◌, ◌≤◌}
use mathlib.Core.Bool.{Bool}
use mathlib.Core.List.{List}
use mathlib.Core.Path.{◌≡◌, ap₂, sym, ◌∙◌}
use borrow.Author.Tests.{lt-ltb, le-ltb}
use Rattle.image.specs.Memory.{Memory}
use Rattle.image.specs.Place.{Place, no_entry, stopped_at}
use Rattle.image.specs.Rules.{run}
use Rattle.image.proofs.Places.{tried-map}
use Rattle.image.proofs.Trees.{run-map}
use Rattle.registers.specs.Admission.{refusal, pass, taken_up, admission, in_interrupt_range}
use Rattle.registers.specs.declared.Registers.{Registers}
use Rattle.dma.specs.Requests.{MemoryOutcome, granted, refused, memory_outcome, concerned}
use Rattle.dma.specs.declared.MemoryRequest.{MemoryRequest}
use Rattle.cache.specs.Engine.{rules_of, domain_over}
use Rattle.cache.specs.Numbers.{newest, held_address, state_kept, state_rules, state_after}

-- an answer, the entry concerned in it and the state left
abbrev pub Says : Registers → List ℕ → MemoryRequest → Memory → MemoryOutcome → Place → List ℕ → Type 0
Says registers state request m o place left =
    (o ≡ run (state_rules registers state request) m)
    × (place ≡ concerned (run (state_rules registers state request) m) (stopped_at (state_rules registers state request) m))
    × (left ≡ state_after registers state request m)

module _ (registers : Registers) (state : List ℕ) (request : MemoryRequest) (m : Memory) {wrong : Bool} (kind : wrong ≡ in_interrupt_range request.address) where
  pub state-refuses : {n : ℕ} → refusal n ≡ admission registers wrong registers.te → Says registers state request m (refused n) no_entry state
  unfolding state_rules state_after run
  state-refuses h = let is = sym (rw kind at h) in (rw is, rw is, rw is)

  pub state-passes : pass ≡ admission registers wrong registers.te → Says registers state request m (granted request.address) no_entry state
  unfolding state_rules state_after run
  state-passes h = let is = sym (rw kind at h) in (rw is, rw is, rw is)

  pub state-hits : taken_up ≡ admission registers wrong registers.te → newest state request < 64
      → Says registers state request m (granted (held_address state (newest state request) request.address)) no_entry state
  unfolding state_rules state_after run
  state-hits h held =
      let is = sym (rw kind at h) in
      let test = lt-ltb (newest state request) 64 held in
      (rw (is, test), rw (is, test), rw (is, test))

  pub state-misses : taken_up ≡ admission registers wrong registers.te → 64 ≤ newest state request
      → (o : MemoryOutcome) (place : Place) (left : List ℕ) → o ≡ memory_outcome request (run (rules_of registers request) m)
      → place ≡ concerned o (stopped_at (rules_of registers request) m)
      → left ≡ state_kept state request (run (rules_of registers request) m) (domain_over registers request.source.id m)
      → Says registers state request m o place left
  unfolding state_rules state_after
  state-misses h none o place left says stopped keeps =
      let is = sym (rw kind at h) in
      let test = le-ltb (newest state request) 64 none in
      let rules = rules_of registers request in
      let told = says ∙ sym (run-map (memory_outcome request) rules m) in (
        rw (is, test) told,
        rw (is, test) (stopped ∙ ap₂ concerned told (sym (tried-map (memory_outcome request) no_entry rules m))),
        rw (is, test) keeps,
      )
