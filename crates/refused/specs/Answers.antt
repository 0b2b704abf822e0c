-- The number of what the code names, 0 for none.
use Rattle.std.specs.Prelude.{ℕ, ◌+◌, Option, Some, None}
use Rattle.refused.specs.declared.BadRegister.{BadRegister}
use Rattle.refused.specs.declared.BadRegister.TheVariants.{Haw, Mgaw, Levels, RootTable, InterruptTable, S}
use Rattle.refused.specs.declared.FirstBad.{FirstBad}
use Rattle.refused.specs.declared.FirstBad.TheVariants.{Register, Window}

abbrev pub register_number : BadRegister → ℕ
register_number Haw = 1
register_number Mgaw = 2
register_number Levels = 3
register_number RootTable = 4
register_number InterruptTable = 5
register_number S = 6

abbrev pub bad_number : FirstBad → ℕ
bad_number (Register r) = register_number r
bad_number (Window n) = 8 + n

abbrev pub register_named : Option BadRegister → ℕ
register_named (Some r) = register_number r
register_named None = 0

abbrev pub window_named : Option ℕ → ℕ
window_named (Some n) = 8 + n
window_named None = 0

abbrev pub first_named : Option FirstBad → ℕ
first_named (Some b) = bad_number b
first_named None = 0
