use Rattle.std.proofs.Common.{ℕ, eqb, ◌∙◌, rules, tests}
use Rattle.std.proofs.lemmas.Iterator.{YieldsList-from_slice}
use Rattle.std.proofs.lemmas.Iterator.Consumers.{count_from_yields_List, YieldsList-from_filter}
use Rattle.tables.proofs.Folds.{counts_free}
use Rattle.tables.proofs.pages.count_free.Goals as goal

pub returns : goal.returns
returns c =
    let marks = c.args.marks.now in
    count_from_yields_List c.filter.result _ c.count.ensures.ran (YieldsList-from_filter _ (λ (mark : ℕ). eqb mark 0) (YieldsList-from_slice marks cc) c.filter.ensures.closure (λ x b q k. search (rules, tests)))
    ∙ counts_free marks
