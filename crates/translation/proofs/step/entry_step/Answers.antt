use mathlib.Core.Path.{ap, sym, ◌∙◌, subst}
use native.Mathlib.Numerals.{add-one}
use Rattle.image.specs.Answers.{fetched8}
use Rattle.image.specs.Place.{Place, entry_at}
use Rattle.image.specs.Answers.{memory_of}
use Rattle.translation.specs.Answers.{StepNames}
use Rattle.translation.proofs.Stepped.{unfetched, fetched}
use Rattle.translation.proofs.step.entry_step.Goals as goal

pub returns-in_default : goal.returns-in_default
returns-in_default c =
    let a = c.args in
    record {
      result_value = unfetched a.registers a.walk.address a.walk.fpd (memory_of a.memory.now) a.below a.table a.above
          (sym (ap fetched8 c.in_default.is) ∙ c.fetch_entry-at.ensures.found_value);
      step_names = ap entry_at c.fetch_entry-at.ensures.at_value;
    }

pub returns : goal.returns
returns c =
    let a = c.args in
    let found = sym (ap fetched8 c.in-Ok.is) ∙ c.fetch_entry-at.ensures.found_value in
    let stepped = fetched a.registers a.walk.address a.walk.fpd (memory_of a.memory.now) a.below a.table a.above found in
    record {
      result_value = c.joined_step.ensures.result_value ∙ rw (add-one a.below) stepped;
      step_names = subst (λ (p : Place). StepNames c.joined_step.result p) (ap entry_at c.fetch_entry-at.ensures.at_value) c.joined_step.ensures.step_names;
    }
