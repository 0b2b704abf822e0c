use Rattle.std.proofs.Common.{ℕ, ◌+◌, ◌*◌, refl, ◌∙◌, arith, rules, tests}
use Rattle.std.proofs.lemmas.Iterator.{YieldsList-from_range}
use Rattle.std.proofs.lemmas.Iterator.Search.{any_from_yields_List}
use Rattle.image.specs.Answers.{memory_of}
use Rattle.region.specs.Shared.{meets_named_at}
use Rattle.region.proofs.Turns.{one_named}
use Rattle.region.proofs.shared.any_named.Goals as goal

pub returns : goal.returns
returns c =
    let a = c.args in
    any_from_yields_List (λ (entry : ℕ). meets_named_at a.posted a.area.start a.area.size (memory_of a.memory.now) (a.table + 16 * entry)) _ _ c.any.result c.any.ensures.ran (YieldsList-from_range 0 a.entries a.entries refl (omega arith)) (λ x b q k. search (rules, tests))
    ∙ one_named a.posted a.area.start a.area.size (memory_of a.memory.now) a.table a.entries 0 a.table (omega arith)
