use mathlib.Core.Bool.{true, false}
use mathlib.Core.Path.{◌≡◌, sym, ◌∙◌}
use native.Mathlib.Omega.{arith}
use Rattle.image.proofs.Fields.{fits}
use Rattle.builder.specs.Reasons.{is_large, leaf_of}
use Rattle.builder.proofs.reasons.leaf.Goals as goal

pub overflow_add-entry : goal.overflow_add-entry
overflow_add-entry c =
    let f = c in
    omega (arith, f.field.ensures, fits f.args.item.what 1 0, f.requires)

pub overflow_add-result : goal.overflow_add-result
overflow_add-result c =
    let f = c in
    omega (arith, f.field.ensures, fits f.args.item.what 1 0, f.requires)

pub returns-then-is_large : goal.returns-then-is_large
unfolding leaf_of
returns-then-is_large c =
    let f = c in
    let h : is_large f.args.item ≡ true = sym c.is_large.ensures ∙ c.if-is_large.true in
    rw (f.field.ensures, h)

pub returns : goal.returns
unfolding leaf_of
returns c =
    let f = c in
    let h : is_large f.args.item ≡ false = sym c.is_large.ensures ∙ c.if-is_large.false in
    rw (f.field.ensures, h) (omega arith)
