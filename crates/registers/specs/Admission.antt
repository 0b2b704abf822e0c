-- Document 01, refusals: 1 and 2 in their order, then the switch. One definition for every kind of request.
use Rattle.std.specs.Prelude.{ℕ, Bool, ◌&&◌, leb}
use Rattle.std.specs.Prelude.{if◌then◌else◌}
use Rattle.image.specs.Rules.{Rules, answer}
use Rattle.registers.specs.Registers.{registers_bad}
use Rattle.registers.specs.declared.Registers.{Registers}

-- FEE00000h to FEEFFFFFh
abbrev pub in_interrupt_range : ℕ → Bool
in_interrupt_range address = leb 0xFEE0_0000 address && leb address 0xFEEF_FFFF

-- refused by number; passed unchanged, since translation or remapping is off; or taken up
pub data Admitted : Type 0 where
  refusal : ℕ → Admitted
  pass : Admitted
  taken_up : Admitted

unfoldable pub admission : Registers → (wrong_kind on : Bool) → Admitted
admission registers wrong_kind on =
    if registers_bad registers then refusal 1
    else if wrong_kind then refusal 2
    else if on then taken_up
    else pass

-- the rules of a request so admitted: how a refusal is answered, what a passed request is answered, and the rules of one taken up
abbrev pub on_admission : {A : Type 0} → Admitted → (ℕ → A) → A → Rules A → Rules A
on_admission (refusal n) refused passed rules = answer (refused n)
on_admission pass refused passed rules = answer passed
on_admission taken_up refused passed rules = rules
