use mathlib.Core.Path.{ap, sym, ◌∙◌}
use native.Mathlib.Numerals.{add-one}
use native.Mathlib.Omega.{arith}
use Rattle.image.specs.Answers.{fetched8, memory_of}
use Rattle.dma.proofs.Steps.{index-lt}
use Rattle.second.specs.Answers.{handed_by}
use Rattle.second.proofs.Seconds.{unfetched, fetched}
use Rattle.second.proofs.step.second_entry.Goals as goal

pub returns-in_default-clause-flags_after : goal.returns-in_default-clause-flags_after
returns-in_default-clause-flags_after c =
    let a = c.args in
    rw (c.stop.ensures, c.unfetchable.ensures)
    (unfetched a.space.registers a.space.entry a.wanted a.address (memory_of a.memory.now) a.below a.table (handed_by a.above a.flags.now) (sym (ap fetched8 c.in_default.is) ∙ c.fetch_entry-at.ensures.found_value))

-- an entry stands less than a page behind its table
pub second_step-requires : goal.second_step-requires
second_step-requires c =
    (omega arith, rw c.fetch_entry-at.ensures.at_value (omega (arith, c.requires.2, index-lt c.args.address c.args.below)), c.requires.3)

pub returns-clause-flags_after : goal.returns-clause-flags_after
returns-clause-flags_after c =
    let a = c.args in
    let here = sym (ap fetched8 c.in-Ok.is) ∙ c.fetch_entry-at.ensures.found_value in
    let stepped = fetched a.space.registers a.space.entry a.wanted a.address (memory_of a.memory.now) a.below a.table (handed_by a.above a.flags.now) here in
    c.second_step.ensures.flags_after ∙ rw (add-one a.below, c.fetch_entry-at.ensures.at_value) stepped
