use Rattle.image.specs.Bits.{bits, in_one_word}
use Rattle.image.proofs.WordFields.{any-in-word}
use Rattle.image.proofs.entry.Entry.any_set.Goals as goal

pub returns : goal.returns
returns g c =
    let a = c.args in
    rw c.bits.ensures (any-in-word (in_one_word a.high a.low) (bits (g.Self.Entry.number a.self) a.high a.low))
