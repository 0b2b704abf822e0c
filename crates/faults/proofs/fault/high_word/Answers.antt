use native.Mathlib.Omega.{arith}
use Rattle.faults.proofs.fault.high_word.Goals as goal

pub returns-then-read : goal.returns-then-read
returns-then-read c = (rw c.if-read.true (omega arith), omega arith)

pub returns-else-read : goal.returns-else-read
returns-else-read c = (rw c.if-read.false (omega arith), omega arith)
