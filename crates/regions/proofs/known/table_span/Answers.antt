use Prim.Native.Nat.{◌+◌, ◌*◌}
use mathlib.Core.Path.{refl}
use native.Mathlib.Omega.{arith}
use lib.Pow.{pow_pos}
use Rattle.image.proofs.Fields.{shifted_one}
use Rattle.regions.proofs.KnownTables.{pow-le}
use Rattle.regions.proofs.known.table_span.Goals as goal

pub returns : goal.returns
returns c =
    let bits = 12 + 9 * c.args.level in
    rw (shifted_one bits (omega arith)) (refl, pow_pos bits, pow-le bits 57 (omega arith))
