use mathlib.Core.Bool.{Bool, true, false, not, ◌||◌}
use mathlib.Core.Path.{◌≡◌, sym, ◌∙◌}
use Rattle.registers.specs.Registers.{outside, registers_bad}
use Rattle.registers.proofs.Registers.bad.Goals as goal

-- `Registers::bad` is the paper's list: each item by its callee.
-- where the first item doesn't hold
joined : {a b b' d d' e e' f f' : Bool} (x : Bool) → a ≡ false → b ≡ b' → d ≡ d' → e ≡ e' → f ≡ f'
    → (b || not x || d || e || f) ≡ (a || b' || not x || d' || e' || f')
joined x p q s t u = rw (p, q, s, t, u)

pub returns-then-out_of_range : goal.returns-then-out_of_range
unfolding registers_bad
returns-then-out_of_range c =
    let r = c.args.self in
    let found : outside r.haw 36 52 ≡ true = sym c.out_of_range.ensures ∙ c.if-out_of_range.true in
    rw found

pub returns : goal.returns
unfolding registers_bad
returns c =
    let widths = c in
    let first = widths in
    let r = first.args.self in
    joined (r.levels3 || r.levels4 || r.levels5)
    (sym first.out_of_range.ensures ∙ widths.if-out_of_range.false)
    widths.out_of_range-2.ensures
    c.bad_table.ensures
    c.bad_table-2.ensures
    c.out_of_range-3.ensures
