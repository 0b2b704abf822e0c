use Rattle.std.proofs.Common.{ℕ, ◌+◌, ◌*◌, not, refl, ◌∙◌, arith, rules, tests}
use Rattle.std.proofs.lemmas.Iterator.{YieldsList-from_range}
use Rattle.std.proofs.lemmas.Iterator.Search.{all_from_yields_List}
use Rattle.tables.specs.Tables.{held_entry, present}
use Rattle.tables.proofs.Folds.{all_absent}
use Rattle.tables.proofs.entries.is_empty.Goals as goal

pub returns : goal.returns
returns c =
    let a = c.args in
    all_from_yields_List (λ (k : ℕ). not (present (held_entry a.bytes.now (a.table + 8 * k)))) _ _ c.all.result c.all.ensures.ran (YieldsList-from_range 0 512 512 refl refl) (λ x b q k. search (rules, tests))
    ∙ all_absent a.bytes.now a.table 512 0 a.table (omega arith)
