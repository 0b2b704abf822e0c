-- Document 01: never more than nine words for a memory request; and with TE off, or refused by 1 or 2, none.
use mathlib.Core.Path.{◌≡◌, refl}
use mathlib.Core.List.{[]}
use Rattle.image.specs.Rules.{map_rules, named}
use Rattle.image.proofs.Forks.{every-named}
use Rattle.registers.specs.Admission.{Admitted, refusal, pass, taken_up, admission, on_admission, in_interrupt_range}
use Rattle.dma.specs.Named.{AtMostNine, NoneUntaken}
use Rattle.dma.specs.Requests.{granted, refused, memory_outcome, memory_rules}
use Rattle.dma.specs.Translation.{translation_rules}
use Rattle.dma.proofs.Forks.{Fork, Ends, memory-forks}

pub at-most-nine : AtMostNine
at-most-nine registers request m =
    every-named Fork Ends 9 (memory_rules registers request) m (memory-forks registers request)

pub none-untaken : NoneUntaken
unfolding memory_rules named
none-untaken registers request m = on (admission registers (in_interrupt_range request.address) registers.te) refl
  where
    on : (k : Admitted) → k ≡ admission registers (in_interrupt_range request.address) registers.te
        → (taken_up ≡ admission registers (in_interrupt_range request.address) registers.te → ⊥)
        → named (on_admission k refused (granted request.address) (map_rules (memory_outcome request) (translation_rules registers request.address request.write request.source.id))) m ≡ []
    on (refusal n) h not = refl
    on pass h not = refl
    on taken_up h not = absurd (not h)
