use Rattle.std.proofs.Common.{◌≡◌, false, ◌||◌, length, ap, sym, ◌∙◌, subst}
use Rattle.image.specs.Answers.{memory_of}
use Rattle.image.specs.Windows.{bad_windows}
use Rattle.registers.specs.Registers.{registers_bad}
use Rattle.registers.proofs.Good.{good}
use Rattle.dma.specs.Answers.{lookup_of}
use Rattle.dma.specs.Lookup.{Lookup, on_lookup}
use Rattle.dma.proofs.Lookups.{Finds, finds}
use Rattle.builder.specs.Ready.{not_yet, in_context}
use Rattle.builder.proofs.Readied.{looked}
use Rattle.builder.proofs.ready.make_ready.Goals.{Else-bad}
use Rattle.builder.proofs.ready.make_ready.Goals as goal

-- neither windows nor registers are refused
fine : (e : Else-bad) → registers_bad e.args.registers ≡ false
fine e = sym e.bad.ensures ∙ e.if-bad.false

taken : (e : Else-bad) → (bad_windows e.args.memory.now.windows.now (length e.args.memory.now.image.now) || registers_bad e.args.registers) ≡ false
taken e = rw (e.args.memory.now.opened.0, fine e)

pub find_context-requires : goal.find_context-requires
find_context-requires c = (good c.args.registers (fine (goal.at.find_context-requires c).Else-bad)).root.aligned

pub returns-in_default-clause-result_value : goal.returns-in_default-clause-result_value
returns-in_default-clause-result_value c =
    let a = c.args in
    let m = a.memory.now in
    ap (λ (l : Lookup). on_lookup l (λ reason fpd. not_yet 2) (in_context a.registers m.windows.now m.image.now a.area.start a.area.size a.copy a.marks)) (sym (ap lookup_of c.in_default.is) ∙ c.find_context.ensures.result_value)
    ∙ looked a.registers m.windows.now m.image.now a.area.start a.area.size a.copy a.marks a.source.id (taken (goal.at.returns-in_default-clause-result_value c).Else-bad) c.if-not-registers.false

pub ready_in-requires : goal.ready_in-requires
ready_in-requires c =
    let a = c.args in (
      fine (goal.at.ready_in-requires c).Else-bad,
      subst Finds (sym c.find_context.ensures.result_value ∙ ap lookup_of c.in-Ok.is) (finds a.registers a.source.id (memory_of a.memory.now)),
    )

pub returns-clause-result_value : goal.returns-clause-result_value
returns-clause-result_value c =
    let a = c.args in
    let m = a.memory.now in
    c.ready_in.ensures.result_value
    ∙ ap (λ (l : Lookup). on_lookup l (λ reason fpd. not_yet 2) (in_context a.registers m.windows.now m.image.now a.area.start a.area.size a.copy a.marks)) (sym (ap lookup_of c.in-Ok.is) ∙ c.find_context.ensures.result_value)
    ∙ looked a.registers m.windows.now m.image.now a.area.start a.area.size a.copy a.marks a.source.id (taken (goal.at.returns-clause-result_value c).Else-bad) c.if-not-registers.false
