use mathlib.Core.Bool.{false}
use mathlib.Core.Path.{◌≡◌, ap, sym, ◌∙◌}
use borrow.Author.Tests.{le-ltb, eq-eqb}
use lib.Dec.{lit≤}
use Rattle.image.specs.Memory.{word_at}
use Rattle.faults.specs.Slots.{slots_in}
use Rattle.galitzaf.specs.Recording.{unfit, record_call, with_both}
use Rattle.galitzaf.proofs.States.{word_of}
use Rattle.galitzaf.proofs.recorder.galitzaf_record.Goals as goal

pub returns : goal.returns
unfolding record_call word_at
returns c =
    let a = c.args in
    let fit : unfit (slots_in a.records.now) a.recorder.now ≡ false =
    rw (← c.slot_count.ensures) (sym c.is_unfit.ensures.result_value ∙ c.if-is_unfit.false) in
    let sound = sym c.bad_answer.ensures.result_value ∙ c.if-bad_answer.false in
    rw (
      c.number.ensures,
      c.write_state.ensures,
      fit,
      sound,
      ← c.slot_count.ensures,
      le-ltb _ _ c.if-recorder-gt1.false,
      eq-eqb _ _ c.if-answer-ne-BLOCKED.false,
      ← word_of a.answer.now sound 8 (lit≤ tt),
      ← word_of a.answer.now sound 16 (lit≤ tt),
      ← c.word_or_zero.ensures,
      ← c.word_or_zero-2.ensures,
      ← c.read_state-state.ensures.0,
      ← c.read_state-state.ensures.1,
    )
    (ap with_both (rw (← c.slot_count.ensures) at c.record-said.ensures))
