use Rattle.std.proofs.Common.{◌≡◌, suc, ◌+◌, ◌-◌, sym, ⊎_elim, arith, pow_pos, ltb-false, ltb-true}
use Rattle.image.specs.Bits.{bits}
use Rattle.image.proofs.Fields.{past_top, upside-down, to-top, shifted_one}
use Rattle.image.proofs.field.Goals as goal

pub returns-then-low-gt63 : goal.returns-then-low-gt63
returns-then-low-gt63 c =
    let a = c.args in
    sym
    (⊎_elim (λ w. past_top a.word 64 a.high c.ranges.word.fits (omega arith))
    (λ w. upside-down a.word (omega (arith, ltb-true)))
    c.then-low-gt63.either)

pub returns-then-high-ge63 : goal.returns-then-high-ge63
returns-then-high-ge63 c =
    let a = c.args in
    sym
    (to-top a.word 64 a.high a.low c.ranges.word.fits (omega arith) (omega arith))

pub nonzero_rem-result : goal.nonzero_rem-result
nonzero_rem-result c =
    let a = c.args in
    rw (shifted_one (a.high - a.low + 1) (omega arith)) (pow_pos (a.high - a.low + 1))

pub returns : goal.returns
unfolding bits
returns c =
    let a = c.args in
    let width : a.high - a.low + 1 ≡ suc a.high - a.low = omega (arith, ltb-false) in
    rw (shifted_one (a.high - a.low + 1) (omega arith), width)
