use Prim.Native.Nat.{suc, ◌+◌, ◌*◌, ◌-◌}
use mathlib.Core.Path.{◌≡◌}
use native.Mathlib.Omega.{arith}
use Rattle.image.proofs.Fields.{fits}
use Rattle.answered.proofs.packed.byte.Goals as goal

pub overflow_cast-result : goal.overflow_cast-result
overflow_cast-result c =
    let low = 8 * c.args.n in
    let width : suc (low + 7) - low ≡ 8 = omega arith in
    record { fits = rw c.field.ensures (rw width at (fits c.args.head (low + 7) low)) }
