use Rattle.std.proofs.Common.{◌≡◌, ◌+◌, ◌-◌, ◌%◌, ap, ◌∙◌, arith}
use Rattle.image.specs.Answers.{memory_of}
use Rattle.image.specs.Memory.{Fetched, entry, on_fetch}
use Rattle.region.specs.Copy.{word_shown}
use Rattle.region.proofs.Turns.{word_or_zero}
use Rattle.region.proofs.spot.word_shown.Goals as goal

pub table_entry-requires : goal.table_entry-requires
table_entry-requires c = let p = c.requires in (omega arith, omega arith, omega (arith, p))

pub returns : goal.returns
unfolding word_shown
returns c =
    let a = c.args in
    let is : (a.at - a.at % 4096) + a.at % 4096 ≡ a.at = omega arith in
    c.unwrap_or.ensures
    ∙ word_or_zero c.table_entry.result
    ∙ ap (λ (x : Fetched). on_fetch x 0 (λ e. e)) (c.table_entry.ensures.result_value ∙ ap (entry 1 (memory_of a.memory.now)) is)
