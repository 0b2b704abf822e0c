-- What the code's admission says, in document 01's numbers.
use Rattle.std.specs.Prelude.{Result, Ok, Err}
use Rattle.registers.specs.Admission.{Admitted, refusal, pass, taken_up}
use Rattle.registers.specs.Refusal.{refusal_number}
use Rattle.registers.specs.declared.admission.Admission.{Admission}
use Rattle.registers.specs.declared.admission.Admission.TheVariants.{Passed, Taken}
use Rattle.registers.specs.declared.refusal.Refusal.{Refusal}

abbrev pub admitted_of : Result Admission Refusal → Admitted
admitted_of (Err r) = refusal (refusal_number r)
admitted_of (Ok Passed) = pass
admitted_of (Ok Taken) = taken_up
