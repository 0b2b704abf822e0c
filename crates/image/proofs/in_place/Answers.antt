use Rattle.std.proofs.Common.{◌^◌, sym, lt_of_le_of_lt, mod-eq_of_lt, zero-mul, arith}
use Rattle.image.proofs.Fields.{past_top, in-place-le}
use Rattle.image.proofs.in_place.Goals as goal

pub returns-then-low-gt63 : goal.returns-then-low-gt63
returns-then-low-gt63 c =
    let a = c.args in
    rw (past_top a.word 64 a.high {low = a.low} c.ranges.word.fits (omega arith)) (sym (zero-mul (2 ^ a.low)))

pub returns : goal.returns
returns c =
    let a = c.args in
    rw c.field.ensures
    (mod-eq_of_lt (lt_of_le_of_lt (in-place-le a.word a.high a.low) c.ranges.word.fits))
