use Rattle.std.proofs.Common.{◌&&◌, eqb, true, ◌∙◌, rules, tests}
use Rattle.std.proofs.lemmas.Iterator.{YieldsList-from_slice}
use Rattle.std.proofs.lemmas.Iterator.Consumers.{fold_from_yields_List}
use Rattle.blocks.proofs.Tested.{zeros_is_fold}
use Rattle.blocks.proofs.blank.Goals as goal

pub returns : goal.returns
returns c =
    fold_from_yields_List _ (λ blank b. blank && eqb b 0) true c.fold.result c.fold.ensures.ran (YieldsList-from_slice c.args.bytes.now cc)
    (λ blank x b q k. search (rules, tests))
    ∙ zeros_is_fold true c.args.bytes.now
