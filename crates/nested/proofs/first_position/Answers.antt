use mathlib.Core.List.{[]}
use mathlib.Core.Path.{refl}
use Rattle.nested.proofs.Rests.{second-alone, first-too}
use Rattle.nested.proofs.first_position.Goals as goal

pub returns-then-entry-eq2-clause-flags_value : goal.returns-then-entry-eq2-clause-flags_value
returns-then-entry-eq2-clause-flags_value c = λ registers write flags. second-alone registers c.args.entry c.args.address write c.if-entry-eq2.true [] refl

pub returns-clause-flags_value : goal.returns-clause-flags_value
returns-clause-flags_value c =
    let other = c.if-entry-eq2.false in
    λ registers write flags. first-too registers c.args.entry c.args.address write other (c.requires.1 other).0 [] refl
