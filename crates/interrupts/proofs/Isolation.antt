-- The customer's demand 3 for interrupts: what a request is answered, and what it writes, is settled by its named words.
use mathlib.Core.Bool.{◌||◌}
use mathlib.Core.Path.{◌≡◌, ap, ap₂, sym, ◌∙◌}
use Rattle.image.specs.Place.{no_entry}
use Rattle.image.specs.Windows.{of_windows}
use Rattle.image.proofs.Forks.{every-outside}
use Rattle.image.proofs.Local.{local}
use Rattle.image.proofs.Places.{local-place}
use Rattle.image.proofs.Trees.{Outside, met}
use Rattle.registers.specs.declared.Registers.{Registers}
use Rattle.interrupts.specs.Claims.{bit_at, sets, AccessFault, Isolated, SameBits}
use Rattle.interrupts.specs.Interrupts.{InterruptOutcome, interrupt_rules, concerned, interrupt_answer}
use Rattle.interrupts.specs.declared.InterruptRequest.{InterruptRequest}
use Rattle.interrupts.proofs.Exact.{sets-exactly}
use Rattle.interrupts.proofs.Forks.{Fork, Ends, interrupt-forks}

-- every answer to an entry that couldn't be fetched is an access fault
access-outside : (registers : Registers) (request : InterruptRequest) → Outside AccessFault (interrupt_rules registers request)
access-outside registers request =
    every-outside Fork Ends AccessFault (λ kind at o is. is) 10 (interrupt_rules registers request) (interrupt-forks registers request)

pub isolated : Isolated
isolated registers request m m' answered same =
    let q = interrupt_rules registers request in
    let complete = met AccessFault q m (access-outside registers request) answered in
    let alike = local q m m' complete same in
    (alike, ap₂ concerned alike (local-place no_entry q m m' complete same))

pub same_bits : SameBits
same_bits registers request windows bytes windows' bytes' good good' answered same n =
    let alike = (isolated registers request (of_windows windows bytes) (of_windows windows' bytes') answered same).0 in
    let both : interrupt_answer registers request windows' bytes' ≡ interrupt_answer registers request windows bytes = rw (good, good') (sym alike) in
    sets-exactly registers request windows' bytes' n ∙ ap (λ (o : InterruptOutcome). bit_at windows' bytes' n || sets o n) both
