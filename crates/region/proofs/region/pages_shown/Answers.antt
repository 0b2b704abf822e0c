use Rattle.std.proofs.Common.{ℕ, ◌+◌, ◌*◌, refl, ◌∙◌, arith, rules, tests}
use Rattle.std.proofs.lemmas.Iterator.{YieldsList-from_range}
use Rattle.std.proofs.lemmas.Iterator.Search.{all_from_yields_List}
use Rattle.image.specs.Windows.{spot_in, windows_of}
use Rattle.region.specs.Copy.{is_whole}
use Rattle.region.proofs.Turns.{all_shown, whole_by}
use Rattle.region.proofs.region.pages_shown.Goals as goal

pub returns : goal.returns
returns c =
    let a = c.args in
    all_from_yields_List (λ (page : ℕ). is_whole (spot_in (windows_of a.memory.now.windows.now) 4096 (a.start + 4096 * page))) _ _ c.all.result c.all.ensures.ran (YieldsList-from_range 0 a.pages a.pages refl (omega arith)) (λ x b q k. search (rules, tests, whole_by))
    ∙ all_shown a.memory.now.windows.now a.start a.pages 0 a.start (omega arith)
