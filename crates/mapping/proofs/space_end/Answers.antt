use Prim.Native.Nat.{◌+◌, ◌*◌, min}
use mathlib.Core.Path.{refl}
use native.Mathlib.Omega.{arith}
use Rattle.image.proofs.Fields.{shifted_one}
use Rattle.regions.proofs.KnownTables.{pow-le}
use Rattle.mapping.proofs.Outcomes.{page-power}
use Rattle.mapping.proofs.space_end.Goals as goal

pub returns : goal.returns
returns c =
    let n = min c.args.mgaw (12 + 9 * c.args.levels) in
    rw (c.min.ensures, shifted_one n (omega arith)) (refl, pow-le n 57 (omega arith), page-power n (omega arith))
