-- Demand 3, claim 1, for memory requests: every answer to an entry that can't be fetched is an access fault, so any other
-- answer is settled by the named words.
use Prim.Native.Nat.{ℕ}
use mathlib.Core.Bool.{Bool, true, false}
use mathlib.Core.Path.{◌≡◌, ap₂, sym, ◌∙◌}
use native.Mathlib.Omega.{arith}
use Rattle.image.specs.Place.{no_entry}
use Rattle.image.proofs.Forks.{every-outside}
use Rattle.image.proofs.Local.{local}
use Rattle.image.proofs.Places.{local-place}
use Rattle.image.proofs.Trees.{Outside, met as complete}
use Rattle.registers.specs.declared.Registers.{Registers}
use Rattle.dma.specs.Isolation.{access_fault, answer_over, Locality}
use Rattle.dma.specs.Requests.{memory_rules, concerned}
use Rattle.dma.specs.declared.MemoryRequest.{MemoryRequest}
use Rattle.dma.proofs.Forks.{Fork, Ends, memory-forks}

pub outside-memory : (registers : Registers) (request : MemoryRequest) → Outside (λ o. access_fault o ≡ true) (memory_rules registers request)
outside-memory registers request =
    every-outside Fork Ends (λ o. access_fault o ≡ true) (λ kind at o fork. fork.0) 9 (memory_rules registers request)
    (memory-forks registers request)

pub locality : Locality
locality registers request m m' answered same =
    let q = memory_rules registers request in
    let met : access_fault (answer_over registers request m) ≡ true → ⊥ = λ ended. let z : ◌≡◌ {A = Bool} true false = sym ended ∙ answered in let y : ◌≡◌ {A = ℕ} 0 1 = cc in omega arith in
    let all = complete (λ o. access_fault o ≡ true) q m (outside-memory registers request) met in
    let alike = local q m m' all same in
    (sym alike, sym (ap₂ concerned alike (local-place no_entry q m m' all same)))
