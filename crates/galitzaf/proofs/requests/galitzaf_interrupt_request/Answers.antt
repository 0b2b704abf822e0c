use Prim.Native.Nat.{ℕ}
use borrow.Author.Tests.{eq-eqb}
use Rattle.galitzaf.specs.Calls.{interrupt_call}
use Rattle.packing.proofs.ArgumentLines.{Decided, decided}
use Rattle.galitzaf.proofs.requests.galitzaf_interrupt_request.Goals.{After-bad_arguments-status}
use Rattle.galitzaf.proofs.requests.galitzaf_interrupt_request.Goals as goal

-- Each way out is a line of the definition.
status : (c : After-bad_arguments-status) → let a = c.args in Decided a.registers.now a.windows.now a.answer.now c.bad_arguments-status.result
status c = let a = c.args in decided a.registers.now a.windows.now a.answer.now c.bad_arguments-status.ensures

pub returns-then-status-ne-OK : goal.returns-then-status-ne-OK
unfolding interrupt_call
returns-then-status-ne-OK c =
    let a = c.args in
    (status (goal.at.returns-then-status-ne-OK c).After-bad_arguments-status).refused c.if-status-ne-OK.true (λ (s : ℕ). (s, a.image.now, a.answer.now)) _

pub unpack-requires : goal.unpack-requires
unpack-requires c = let first = c in ((status (goal.at.unpack-requires c).After-bad_arguments-status).accepted first.if-status-ne-OK.false).registers-fine

pub store-requires : goal.store-requires
store-requires c =
    let first = c in
    ((status (goal.at.store-requires c).After-bad_arguments-status).accepted first.if-status-ne-OK.false).answer-whole

pub returns : goal.returns
unfolding interrupt_call
returns c =
    let stored = c in
    let packed = stored in
    let asked = packed in
    let unpacked = asked in
    let source = unpacked in
    let first = source in
    let past = (status (goal.at.returns c).After-bad_arguments-status).accepted first.if-status-ne-OK.false in
    rw (past.registers-fine, past.windows-fine, eq-eqb _ _ past.answer-whole, stored.store.ensures, packed.pack_interrupt.ensures, asked.interrupt_request.ensures.result_value, asked.interrupt_request.ensures.result_value_2, asked.interrupt_request.ensures.image_after, unpacked.unpack.ensures, source.from.ensures)
