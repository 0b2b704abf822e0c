use Rattle.std.proofs.Common.{◌≡◌, ◌≢◌, ℕ, sym, ◌∙◌, rules, tests}
use Rattle.std.proofs.lemmas.Iterator.{IsFirst-from_position, YieldsList-from_slice}
use Rattle.tables.proofs.Folds.{first_free}
use Rattle.tables.proofs.pages.lowest_free.Goals as goal

pub returns : goal.returns
returns c =
    let marks = c.args.marks.now in
    let found = IsFirst-from_position _ _ c.position.result (λ (mark : ℕ). mark ≡ 0) (λ (mark : ℕ). mark ≢ 0) c.position.ensures.ran (YieldsList-from_slice marks cc) (λ x q k. search (rules, tests)) (λ x q k. search (rules, tests)) in
    (c.unwrap_or.ensures ∙ sym (first_free marks c.position.result found), search rules)
