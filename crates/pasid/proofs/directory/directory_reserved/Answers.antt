use Prim.Native.Nat.{◌<◌, ◌^◌}
use native.Mathlib.Omega.{arith}
use Rattle.registers.proofs.Powers.{from-bit}
use Rattle.pasid.specs.Directory.{directory_reserved}
use Rattle.pasid.proofs.directory.directory_reserved.Goals as goal

pub returns : goal.returns
unfolding directory_reserved
returns c =
    let s = c in
    let word : s.args.e < 2 ^ 64 = omega arith in
    rw (from-bit s.args.haw word, c.field.ensures, c.at_or_above_power.ensures)
