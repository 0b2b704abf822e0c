use mathlib.Core.Path.{ap, sym, ◌∙◌, subst}
use Rattle.std.specs.Prelude.{Ok}
use Rattle.image.specs.Answers.{memory_of}
use Rattle.faults.specs.Reason.{number_of}
use Rattle.dma.specs.Answers.{lookup_of}
use Rattle.dma.proofs.Lookups.{Finds, finds}
use Rattle.regions.specs.Outside.{table_outside}
use Rattle.mapping.specs.Answers.{told_as}
use Rattle.mapping.specs.Mapping.{Mapped}
use Rattle.mapping.specs.Told.{ListedAs}
use Rattle.mapping.specs.Told as told
use Rattle.mapping.proofs.Outcomes.{source-fault, source-context, told-faulted}
use Rattle.mapping.proofs.list_source.Goals as goal

pub list_context-requires : goal.list_context-requires
list_context-requires c =
    let a = c.args in (
      subst Finds (sym c.find_context.ensures.result_value ∙ ap lookup_of c.in-Ok.is) (finds a.registers a.source.id (memory_of a.memory.now)),
      c.requires.1,
      c.requires.2,
    )

pub returns-in-Err-clause-listed_as : goal.returns-in-Err-clause-listed_as
returns-in-Err-clause-listed_as c =
    let a = c.args in
    subst (λ (k : Mapped). ListedAs k a.rows.now a.rows.now (told.faulted (number_of c.in-Err.stop.reason)))
    (sym (source-fault a.registers (memory_of a.memory.now) (table_outside a.memory.now.windows.now) a.source.id _ _ (sym c.find_context.ensures.result_value ∙ ap lookup_of c.in-Err.is)))
    (told-faulted _ a.rows.now)

pub returns-in-Ok-clause-listed_as : goal.returns-in-Ok-clause-listed_as
returns-in-Ok-clause-listed_as c =
    let a = c.args in
    subst (λ (k : Mapped). ListedAs k a.rows.now c.list_context.new.rows (told_as (Ok c.list_context.result)))
    (sym (source-context a.registers (memory_of a.memory.now) (table_outside a.memory.now.windows.now) a.source.id _ (sym c.find_context.ensures.result_value ∙ ap lookup_of c.in-Ok.is)))
    c.list_context.ensures.listed_as
