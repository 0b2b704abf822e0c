use Prim.Native.Nat.{ℕ}
use borrow.Author.Tests.{eq-eqb, lt-ltb, le-ltb}
use Rattle.galitzaf.specs.Calls.{memory_call}
use Rattle.packing.proofs.ArgumentLines.{Decided, decided}
use Rattle.galitzaf.proofs.requests.galitzaf_memory_request.Goals.{After-bad_arguments-status}
use Rattle.galitzaf.proofs.requests.galitzaf_memory_request.Goals as goal

-- Each way out is a line of the definition.
status : (c : After-bad_arguments-status) → let a = c.args in Decided a.registers.now a.windows.now a.answer.now c.bad_arguments-status.result
status c = let a = c.args in decided a.registers.now a.windows.now a.answer.now c.bad_arguments-status.ensures

pub returns-then-status-ne-OK : goal.returns-then-status-ne-OK
unfolding memory_call
returns-then-status-ne-OK c = (status (goal.at.returns-then-status-ne-OK c).After-bad_arguments-status).refused c.if-status-ne-OK.true (λ (s : ℕ). (s, c.args.answer.now)) _

pub returns-then-write-gt1 : goal.returns-then-write-gt1
unfolding memory_call
returns-then-write-gt1 c =
    let past = (status (goal.at.returns-then-write-gt1 c).After-bad_arguments-status).accepted c.if-status-ne-OK.false in
    rw (past.registers-fine, past.windows-fine, eq-eqb _ _ past.answer-whole, lt-ltb 1 _ c.if-write-gt1.true)

pub returns : goal.returns
unfolding memory_call
returns c =
    let stored = c in
    let asked = stored in
    let unpacked = asked in
    let source = unpacked in
    let first = source in
    let past = (status (goal.at.returns c).After-bad_arguments-status).accepted first.if-status-ne-OK.false in
    rw (past.registers-fine, past.windows-fine, eq-eqb _ _ past.answer-whole, le-ltb _ _ source.if-write-gt1.false, stored.store_memory.ensures, asked.memory_request.ensures.result_value, asked.memory_request.ensures.result_value_2, unpacked.unpack.ensures, source.from.ensures)

pub unpack-requires : goal.unpack-requires
unpack-requires c = let first = c in ((status (goal.at.unpack-requires c).After-bad_arguments-status).accepted first.if-status-ne-OK.false).registers-fine

pub store_memory-requires : goal.store_memory-requires
store_memory-requires c = let first = c in ((status (goal.at.store_memory-requires c).After-bad_arguments-status).accepted first.if-status-ne-OK.false).answer-whole
