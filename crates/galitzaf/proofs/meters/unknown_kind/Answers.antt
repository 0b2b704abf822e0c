use Rattle.std.proofs.Common.{rules, tests, ◌∙◌, ◌||◌, ltb, false}
use Rattle.std.proofs.lemmas.Iterator.{YieldsList-from_slice}
use Rattle.std.proofs.lemmas.Iterator.Consumers.{fold_from_yields_List}
use Rattle.galitzaf.proofs.Arrays.{some_is_fold}
use Rattle.galitzaf.proofs.meters.unknown_kind.Goals as goal

pub returns : goal.returns
returns c =
    fold_from_yields_List _ (λ unknown kind. unknown || ltb 2 kind) false c.fold.result c.fold.ensures.ran (YieldsList-from_slice c.args.kinds.now cc)
    (λ unknown x b q k. search (rules, tests))
    ∙ some_is_fold (ltb 2) false c.args.kinds.now
