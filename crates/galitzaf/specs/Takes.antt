-- What a take's call answers, and what it leaves in the image.
use Rattle.std.specs.Prelude.{ℕ, ◌+◌, List}
use Rattle.std.specs.Prelude.{if◌then◌else◌}
use Rattle.takes.specs.Take as rules
use Rattle.takes.specs.Take.{TakeOutcome}
use Rattle.packing.specs.Arguments.{malformed_windows}
use Rattle.packing.specs.Registers.{malformed_registers, unpacked}
use Rattle.packing.specs.Status.{bad_registers, bad_window_count, none_stands, taken}

-- 200h and the vector that is handed out, 40h where none stands, or the refusal's number
abbrev pub take_status : TakeOutcome → ℕ
take_status (rules.handed vector) = taken + vector
take_status rules.none = none_stands
take_status (rules.refused number) = number

-- the status and the image
abbrev pub took : (windows : List ℕ) (descriptor : ℕ) → TakeOutcome → List ℕ → ℕ × List ℕ
took windows descriptor outcome image = (take_status outcome, rules.take_written windows descriptor outcome image)

unfoldable pub take_call : (registers windows image : List ℕ) (descriptor : ℕ) → ℕ × List ℕ
take_call registers windows image descriptor =
    if malformed_registers registers then (bad_registers, image)
    else if malformed_windows windows then (bad_window_count, image)
    else took windows descriptor (rules.take_answer (unpacked registers) descriptor windows image) image
