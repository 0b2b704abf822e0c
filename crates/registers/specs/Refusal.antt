-- Document 01's number of each refusal.
use Rattle.std.specs.Prelude.{ℕ}
use Rattle.registers.specs.declared.refusal.Refusal.{Refusal}
use Rattle.registers.specs.declared.refusal.Refusal.TheVariants.{BadRegisters, WrongAddress, InterruptPage, BadDescriptor, WidePasid}

abbrev pub refusal_number : Refusal → ℕ
refusal_number BadRegisters = 1
refusal_number WrongAddress = 2
refusal_number InterruptPage = 4
refusal_number BadDescriptor = 5
refusal_number WidePasid = 6
