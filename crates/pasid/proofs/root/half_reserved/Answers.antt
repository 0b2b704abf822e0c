use Prim.Native.Nat.{◌<◌, ◌^◌}
use native.Mathlib.Omega.{arith}
use Rattle.registers.proofs.Powers.{from-bit}
use Rattle.pasid.proofs.root.half_reserved.Goals as goal

pub returns : goal.returns
returns c =
    let s = c in
    let word : s.args.half < 2 ^ 64 = omega arith in
    rw (from-bit s.args.haw word, c.field.ensures, c.field-2.ensures, c.at_or_above_power.ensures)
