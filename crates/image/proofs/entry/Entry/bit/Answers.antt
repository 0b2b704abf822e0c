use Rattle.std.proofs.Common.{◌/◌, refl, eq-eqb}
use Rattle.image.proofs.entry.Entry.bit.Goals as goal

pub returns : goal.returns
returns g c =
    let n = c.args.place / 64 in
    rw (c.bits.ensures, eq-eqb n n refl)
