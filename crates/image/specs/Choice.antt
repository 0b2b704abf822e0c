-- A test as a number: to count by, or as a flag of a byte.
use Rattle.std.specs.Prelude.{ℕ, Bool, if◌then◌else◌}

abbrev pub one-if : Bool → ℕ
one-if test = if test then 1 else 0
