use mathlib.Core.Path.{sym, ◌∙◌}
use borrow.Author.Tests.{eq-eqb, ne_eqb, lt-ltb, le-ltb, le-leb, lt-leb}
use Rattle.galitzaf_scalable.specs.Scalable.{scalable_call}
use Rattle.galitzaf_scalable.proofs.galitzaf_scalable_request.Goals as goal

-- Each way out is a line of the definition.
pub returns-then-malformed : goal.returns-then-malformed
unfolding scalable_call
returns-then-malformed c = rw (← c.malformed.ensures, c.if-malformed.true)

pub returns-then-capabilities-ge1024 : goal.returns-then-capabilities-ge1024
unfolding scalable_call
returns-then-capabilities-ge1024 c = rw (← c.malformed.ensures, c.if-malformed.false, le-leb _ _ c.if-capabilities-ge1024.true)

pub returns-then-windows-ne0 : goal.returns-then-windows-ne0
unfolding scalable_call
returns-then-windows-ne0 c =
    rw (← c.malformed.ensures, c.if-malformed.false, lt-leb _ _ c.if-capabilities-ge1024.false, ne_eqb _ _ c.if-windows-ne0.true)

pub returns-then-answer-ne32 : goal.returns-then-answer-ne32
unfolding scalable_call
returns-then-answer-ne32 c =
    rw (← c.malformed.ensures, c.if-malformed.false, lt-leb _ _ c.if-capabilities-ge1024.false, eq-eqb _ _ c.if-windows-ne0.false, ne_eqb _ _ c.if-answer-ne32.true)

pub returns-then-kind-gt3 : goal.returns-then-kind-gt3
unfolding scalable_call
returns-then-kind-gt3 c =
    rw (← c.malformed.ensures, c.if-malformed.false, lt-leb _ _ c.if-capabilities-ge1024.false, eq-eqb _ _ c.if-windows-ne0.false, eq-eqb _ _ c.if-answer-ne32.false, lt-ltb 3 _ c.if-kind-gt3.true)

pub unpack_scalable-unit-requires : goal.unpack_scalable-unit-requires
unpack_scalable-unit-requires c =
    sym c.malformed.ensures ∙ c.if-malformed.false

pub returns : goal.returns
unfolding scalable_call
returns c =
    rw (
      ← c.malformed.ensures,
      c.if-malformed.false,
      lt-leb _ _ c.if-capabilities-ge1024.false,
      eq-eqb _ _ c.if-windows-ne0.false,
      eq-eqb _ _ c.if-answer-ne32.false,
      le-ltb _ _ c.if-kind-gt3.false,
      c.store.ensures,
      c.pack_scalable.ensures,
      c.scalable_request.ensures.result_value,
      c.scalable_request.ensures.result_value_2,
      c.scalable_request.ensures.image_after,
      c.unpack_scalable-unit.ensures,
      c.request_of-request.ensures,
    )
