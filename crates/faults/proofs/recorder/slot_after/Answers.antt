use Prim.Native.Nat.{zero, ◌+◌, ◌<◌}
use native.Mathlib.Nat.{mod-lt}
use native.Mathlib.Omega.{arith}
use Rattle.faults.proofs.recorder.slot_after.Goals as goal

-- A slot is below 256.
pub overflow_cast-result-2 : goal.overflow_cast-result-2
overflow_cast-result-2 c =
    let below = c.requires.0 in
    let most = c.requires.1 in
    let some : zero < c.args.slots = omega arith in
    let rest = mod-lt (c.args.next + 1) some in
    omega arith
