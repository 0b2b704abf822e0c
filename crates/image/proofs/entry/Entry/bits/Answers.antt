use Rattle.std.proofs.Common.{◌∙◌}
use Rattle.image.proofs.WordFields.{in-word}
use Rattle.image.proofs.entry.Entry.bits.Goals as goal

pub returns : goal.returns
returns g c =
    let a = c.args in
    c.field_in.ensures
    ∙ rw c.word.ensures.value (rw (← g.met.Self.Entry.laws.spelled a.self) (in-word (g.Self.Entry.words a.self) c.word.ensures.fits a.high a.low))
