use Rattle.std.proofs.Common.{sym, ◌∙◌}
use Rattle.registers.proofs.Good.{good}
use Rattle.builder.proofs.Readied.{usable}
use Rattle.builder.proofs.ready.ready_in.Goals as goal

pub returns-clause-if_ready : goal.returns-clause-if_ready
returns-clause-if_ready c =
    let a = c.args in
    usable a.registers a.memory.now.windows.now a.memory.now.image.now a.area.start a.area.size a.copy a.marks a.context (good a.registers c.requires.0).haw.most c.requires.1 (sym c.bad_region.ensures ∙ c.if-bad_region.false) (sym c.is_sized.ensures ∙ c.if-not-is_sized.false) (sym c.is_top_outside.ensures ∙ c.if-is_top_outside.false)
