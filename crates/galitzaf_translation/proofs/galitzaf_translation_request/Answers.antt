-- Each way out is a line of the definition.
use Prim.Native.Nat.{ℕ}
use borrow.Author.Tests.{eq-eqb}
use Rattle.packing.specs.Translations.{translation_call}
use Rattle.packing.proofs.ArgumentLines.{Decided, decided}
use Rattle.galitzaf_translation.proofs.galitzaf_translation_request.Goals.{After-bad_arguments-status}
use Rattle.galitzaf_translation.proofs.galitzaf_translation_request.Goals as goal

status : (c : After-bad_arguments-status)
    → let a = c.args in Decided a.registers.now a.windows.now a.answer.now c.bad_arguments-status.result
status c = let a = c.args in decided a.registers.now a.windows.now a.answer.now c.bad_arguments-status.ensures

pub returns-then-status-ne-OK : goal.returns-then-status-ne-OK
unfolding translation_call
returns-then-status-ne-OK c =
    (status (goal.at.returns-then-status-ne-OK c).After-bad_arguments-status).refused
    c.if-status-ne-OK.true (λ (s : ℕ). (s, c.args.answer.now)) _

pub unpack-requires : goal.unpack-requires
unpack-requires c =
    ((status (goal.at.unpack-requires c).After-bad_arguments-status).accepted c.if-status-ne-OK.false).registers-fine

pub store-requires : goal.store-requires
store-requires c =
    ((status (goal.at.store-requires c).After-bad_arguments-status).accepted c.if-status-ne-OK.false).answer-whole

pub returns : goal.returns
unfolding translation_call
returns c =
    let past = (status (goal.at.returns c).After-bad_arguments-status).accepted c.if-status-ne-OK.false in
    rw (
      past.registers-fine,
      past.windows-fine,
      eq-eqb _ _ past.answer-whole,
      c.store.ensures,
      c.pack_translation.ensures,
      c.translation_request.ensures.result_value,
      c.translation_request.ensures.result_value_2,
      c.unpack.ensures,
      c.from.ensures,
    )
