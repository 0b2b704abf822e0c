use mathlib.Core.Bool.{false}
use mathlib.Core.Path.{◌≡◌, ap, sym, ◌∙◌}
use lib.ListN.{length}
use Rattle.std.specs.Prelude.{Result, Ok}
use Rattle.registers.specs.Admission.{admission}
use Rattle.registers.specs.Answers.{admitted_of}
use Rattle.registers.specs.declared.admission.Admission.{Admission}
use Rattle.registers.specs.Refusal.{refusal_number}
use Rattle.registers.specs.declared.refusal.Refusal.{Refusal}
use Rattle.registers.proofs.Good.{taken-good}
use Rattle.image.specs.Windows.{of_windows, bad_windows}
use Rattle.dma.specs.Requests.{granted, refused}
use Rattle.scalable.proofs.Admitted.{refuses, passes-wide, passes, takes, said, taken-said, bad-said}
use Rattle.scalable.proofs.scalable_request.Goals.{After-admit}
use Rattle.scalable.proofs.scalable_request.Goals as goal

-- where the code has asked for admission
fine : (c : After-admit) → bad_windows c.args.windows.now (length c.args.image.now) ≡ false
fine c = sym c.bad_windows.ensures ∙ c.if-bad_windows.false

admitted : (c : After-admit) → {r : Result Admission Refusal} → c.admit.result ≡ r
    → admitted_of r ≡ admission c.args.registers.base c.in_interrupt_range.result c.args.registers.base.te
admitted c is = sym (ap admitted_of is) ∙ c.admit.ensures

pub returns-then-bad_windows : goal.returns-then-bad_windows
returns-then-bad_windows c =
    let a = c.args in
    let t = bad-said a.registers a.request a.windows.now a.image.now (sym c.bad_windows.ensures ∙ c.if-bad_windows.true) in
    record { result_value = t.0; result_value_2 = t.1.0; image_after = t.1.1 }

pub returns-then-pasid_too_wide : goal.returns-then-pasid_too_wide
returns-then-pasid_too_wide c =
    let a = c.args in
    let is = passes-wide a.registers a.request (of_windows a.windows.now a.image.now) c.in_interrupt_range.ensures (admitted (goal.at.returns-then-pasid_too_wide c).After-admit (c.in-Ok-Passed.is ∙ ap Ok c.in-Ok-Passed.field-0-is)) (sym c.pasid_too_wide.ensures ∙ c.if-pasid_too_wide.true) in
    let t = said a.registers a.request a.windows.now a.image.now (fine (goal.at.returns-then-pasid_too_wide c).After-admit) (refused 6) is in
    record { result_value = t.0; result_value_2 = t.1.0; image_after = t.1.1 }

pub take_up-requires : goal.take_up-requires
take_up-requires c =
    let good = taken-good c.args.registers.base _ _ (admitted (goal.at.take_up-requires c).After-admit (c.in-Ok-Taken.is ∙ ap Ok c.in-Ok-Taken.field-0-is)) in
    (fine (goal.at.take_up-requires c).After-admit, good.root.aligned, good.haw.most)

pub returns-in-Err : goal.returns-in-Err
returns-in-Err c =
    let a = c.args in
    let is = refuses a.registers a.request (of_windows a.windows.now a.image.now) c.in_interrupt_range.ensures (admitted (goal.at.returns-in-Err c).After-admit c.in-Err.is) in
    let t = said a.registers a.request a.windows.now a.image.now (fine (goal.at.returns-in-Err c).After-admit) (refused (refusal_number c.in-Err.refusal)) is in
    record { result_value = rw c.number.ensures t.0; result_value_2 = t.1.0; image_after = t.1.1 }

pub returns-else-pasid_too_wide : goal.returns-else-pasid_too_wide
returns-else-pasid_too_wide c =
    let a = c.args in
    let is = passes a.registers a.request (of_windows a.windows.now a.image.now) c.in_interrupt_range.ensures (admitted (goal.at.returns-else-pasid_too_wide c).After-admit (c.in-Ok-Passed.is ∙ ap Ok c.in-Ok-Passed.field-0-is)) (sym c.pasid_too_wide.ensures ∙ c.if-pasid_too_wide.false) in
    let t = said a.registers a.request a.windows.now a.image.now (fine (goal.at.returns-else-pasid_too_wide c).After-admit) (granted a.request.address) is in
    record { result_value = t.0; result_value_2 = t.1.0; image_after = t.1.1 }

pub returns-in-Ok-Taken : goal.returns-in-Ok-Taken
returns-in-Ok-Taken c =
    let a = c.args in
    let same = takes a.registers a.request (of_windows a.windows.now a.image.now) c.in_interrupt_range.ensures (admitted (goal.at.returns-in-Ok-Taken c).After-admit (c.in-Ok-Taken.is ∙ ap Ok c.in-Ok-Taken.field-0-is)) in
    let e = c.take_up.ensures in
    let t = taken-said a.registers a.request a.windows.now a.image.now (fine (goal.at.returns-in-Ok-Taken c).After-admit) same e.result_value e.result_value_2 e.image_after in
    record { result_value = t.0; result_value_2 = t.1.0; image_after = t.1.1 }
