-- No two refusals have the same number.
use Rattle.std.proofs.Common.{◌≡◌, ℕ, eqb, sym, refl, ap, ◌∙◌}
use Rattle.std.specs.Prelude.{if◌then◌else◌}
use Rattle.registers.specs.Refusal.{refusal_number}
use Rattle.registers.specs.declared.refusal.Refusal.{Refusal}
use Rattle.registers.specs.declared.refusal.Refusal.TheVariants.{BadRegisters, WrongAddress, InterruptPage, BadDescriptor, WidePasid}

-- the refusal of a number
abbrev pub refusal_back : ℕ → Refusal
refusal_back n =
    if eqb n 1 then BadRegisters
    else if eqb n 2 then WrongAddress
    else if eqb n 4 then InterruptPage
    else if eqb n 5 then BadDescriptor
    else WidePasid

pub refusal-back : (r : Refusal) → refusal_back (refusal_number r) ≡ r
refusal-back BadRegisters = refl
refusal-back WrongAddress = refl
refusal-back InterruptPage = refl
refusal-back BadDescriptor = refl
refusal-back WidePasid = refl

pub refusal_number-injective : (r s : Refusal) → refusal_number r ≡ refusal_number s → r ≡ s
refusal_number-injective r s e = sym (refusal-back r) ∙ ap refusal_back e ∙ refusal-back s
