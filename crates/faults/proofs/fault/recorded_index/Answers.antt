use mathlib.Core.Bool.{true, ◌||◌}
use mathlib.Core.Path.{◌≡◌}
use native.Mathlib.Omega.{arith}
use lib.Dec.{eqb}
use Rattle.faults.specs.Record.{index_field}
use Rattle.faults.proofs.fault.recorded_index.Goals as goal

-- Each arm is a case of the definition.
pub returns-then-number : goal.returns-then-number
unfolding index_field
returns-then-number c =
    let none : (eqb c.args.number 0x20 || eqb c.args.number 0x25) ≡ true = c.if-number.true in
    (rw none, omega arith)

pub returns-then-index-gt65535 : goal.returns-then-index-gt65535
unfolding index_field
returns-then-index-gt65535 c = (rw c.if-number.false (omega arith), omega arith)

pub returns-else-index-gt65535 : goal.returns-else-index-gt65535
unfolding index_field
returns-else-index-gt65535 c = (rw c.if-number.false (omega arith), omega arith)
