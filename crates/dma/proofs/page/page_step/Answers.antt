use mathlib.Core.Path.{◌≡◌, ap, sym, ◌∙◌}
use native.Mathlib.Numerals.{add-one}
use Rattle.std.proofs.lemmas.Result.{err_from_is_err_and}
use Rattle.image.specs.Answers.{fetched8}
use Rattle.image.specs.Memory.{found, entry}
use Rattle.image.specs.Place.{entry_at}
use Rattle.image.specs.Answers.{memory_of}
use Rattle.dma.specs.Walk.{place_in}
use Rattle.dma.proofs.Stepped.{unfetched, stopped, at_leaf, at_table_lem}
use Rattle.dma.proofs.page.page_step.Goals.{In-Ok}
use Rattle.dma.proofs.page.page_step.Goals as goal

-- One level of the walk: the entry that the code takes from the table's page is the one that the rules name, and each way out is the
-- step that the rules make of it.
pub returns-in_default : goal.returns-in_default
returns-in_default c =
    let a = c.args in
    record {
      result_value = unfetched a.registers a.walk.address a.write a.walk.fpd (memory_of a.memory.now) a.below a.table (sym (ap fetched8 c.in_default.is) ∙ c.fetch_entry-at.ensures.found_value);
      step_names = ap entry_at c.fetch_entry-at.ensures.at_value;
    }

found_at : (c : In-Ok)
    → found c.in-Ok.e
    ≡ entry 1 (memory_of c.args.memory.now) (place_in c.args.walk.address c.args.table c.args.below)
found_at c = sym (ap fetched8 c.in-Ok.is) ∙ c.fetch_entry-at.ensures.found_value

pub returns-in_err-frame : goal.returns-in_err-frame
returns-in_err-frame c =
    let a = c.args in
    let told = c.in_err-frame.ensures in
    let p = err_from_is_err_and c.from_residual.result c.from_residual.ensures.1 in
    record {
      result_value = rw (p.1, p.2, told.given_fpd) (stopped a.registers a.walk.address a.write a.walk.fpd (memory_of a.memory.now) a.below a.table (found_at (goal.at.returns-in_err-frame c).In-Ok) (rw (← add-one a.below) told.result_value));
      step_names = rw (p.1, p.2) (told.check_names ∙ ap entry_at c.fetch_entry-at.ensures.at_value);
    }

pub returns-then-is_leaf-clause-result_value : goal.returns-then-is_leaf-clause-result_value
returns-then-is_leaf-clause-result_value c =
    let a = c.args in
    let page = sym c.is_leaf.ensures ∙ c.if-is_leaf.true in
    rw (add-one a.below) (at_leaf a.registers a.walk.address a.write a.walk.fpd (memory_of a.memory.now) a.below a.table (found_at (goal.at.returns-then-is_leaf-clause-result_value c).In-Ok) (rw (← add-one a.below) c.in_ok-frame.ensures.result_value) (rw (add-one a.below) at page))

pub returns-clause-result_value : goal.returns-clause-result_value
returns-clause-result_value c =
    let a = c.args in
    let more = sym c.is_leaf.ensures ∙ c.if-is_leaf.false in
    at_table_lem a.registers a.walk.address a.write a.walk.fpd (memory_of a.memory.now) a.below a.table (found_at (goal.at.returns-clause-result_value c).In-Ok) (rw (← add-one a.below) c.in_ok-frame.ensures.result_value) (rw (add-one a.below) at more)
