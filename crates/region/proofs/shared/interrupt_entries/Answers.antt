use Prim.Native.Nat.{◌+◌}
use native.Mathlib.Omega.{arith}
use lib.Pow.{pow_pos, pow_mono}
use Rattle.image.proofs.Fields.{shifted_one}
use Rattle.region.proofs.shared.interrupt_entries.Goals as goal

pub returns : goal.returns
returns c =
    let s = c in
    let is = shifted_one (s.args.registers.s + 1) (omega (arith, s.requires)) in
    (is, omega (arith, is, pow_pos (s.args.registers.s + 1)), omega (arith, is, pow_mono {i = s.args.registers.s + 1} {j = 16} (omega (arith, s.requires))))
