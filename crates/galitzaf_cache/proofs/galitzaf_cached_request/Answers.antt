-- Each way out is a line of the definition.
use borrow.Author.Tests.{eq-eqb, ne_eqb, lt-ltb, le-ltb}
use Rattle.galitzaf_cache.specs.Caches.{cached_call}
use Rattle.galitzaf_cache.proofs.galitzaf_cached_request.Goals as goal

pub returns-then-malformed : goal.returns-then-malformed
unfolding cached_call
returns-then-malformed c = rw (← c.malformed.ensures, c.if-malformed.true)

pub returns-then-windows-ne0 : goal.returns-then-windows-ne0
unfolding cached_call
returns-then-windows-ne0 c = rw (← c.malformed.ensures, c.if-malformed.false, ne_eqb _ _ c.if-windows-ne0.true)

pub returns-then-cache-ne-WORDS : goal.returns-then-cache-ne-WORDS
unfolding cached_call
returns-then-cache-ne-WORDS c =
    rw (← c.malformed.ensures, c.if-malformed.false, eq-eqb _ _ c.if-windows-ne0.false, ne_eqb _ _ c.if-cache-ne-WORDS.true)

pub returns-then-answer-ne32 : goal.returns-then-answer-ne32
unfolding cached_call
returns-then-answer-ne32 c =
    rw (
      ← c.malformed.ensures,
      c.if-malformed.false,
      eq-eqb _ _ c.if-windows-ne0.false,
      eq-eqb _ _ c.if-cache-ne-WORDS.false,
      ne_eqb _ _ c.if-answer-ne32.true,
    )

pub returns-then-write-gt1 : goal.returns-then-write-gt1
unfolding cached_call
returns-then-write-gt1 c =
    rw (
      ← c.malformed.ensures,
      c.if-malformed.false,
      eq-eqb _ _ c.if-windows-ne0.false,
      eq-eqb _ _ c.if-cache-ne-WORDS.false,
      eq-eqb _ _ c.if-answer-ne32.false,
      lt-ltb 1 _ c.if-write-gt1.true,
    )

pub returns : goal.returns
unfolding cached_call
returns c =
    rw (
      ← c.malformed.ensures,
      c.if-malformed.false,
      eq-eqb _ _ c.if-windows-ne0.false,
      eq-eqb _ _ c.if-cache-ne-WORDS.false,
      eq-eqb _ _ c.if-answer-ne32.false,
      le-ltb _ _ c.if-write-gt1.false,
      c.store_memory.ensures,
      c.cached_request.ensures.result_value,
      c.cached_request.ensures.result_value_2,
      c.cached_request.ensures.state_after,
      c.unpack.ensures,
      c.from.ensures,
    )
