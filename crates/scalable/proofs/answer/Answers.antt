use mathlib.Core.Path.{◌≡◌, ap, sym, ◌∙◌}
use lib.ListN.{take}
use Rattle.std.specs.Prelude.{Ok}
use Rattle.scalable.specs.Answers.{translation_of}
use Rattle.scalable.specs.Requests.{decision}
use Rattle.scalable.specs.declared.translation.Translation.TheVariants.{Page}
use Rattle.scalable.proofs.answer.Goals as goal

pub returns-in-Ok-Page-clause-by_index : goal.returns-in-Ok-Page-clause-by_index
returns-in-Ok-Page-clause-by_index c =
    let a = c.args in
    let inner : c.in-Ok-Page.field-0 ≡ Page c.in-Ok-Page.page = rw c.in-Ok-Page.is at c.in-Ok-Page.field-0-is in
    let page : a.translated ≡ Ok (Page c.in-Ok-Page.page) = rw inner at c.in-Ok-Page.is in
    λ flags.
    c.page_answer.ensures.result_value a.request (take c.in-Ok-Page.page.count flags)
    ∙ sym (ap (λ t. (decision a.request (translation_of t flags)).outcome) page)
