-- Each way out is a line of the definition.
use borrow.Author.Tests.{eq-eqb, ne_eqb}
use Rattle.galitzaf_cache.specs.Caches.{invalidate_call}
use Rattle.galitzaf_cache.proofs.galitzaf_invalidate_all.Goals as goal

pub returns-then-cache-ne-WORDS : goal.returns-then-cache-ne-WORDS
unfolding invalidate_call
returns-then-cache-ne-WORDS c = rw (ne_eqb _ _ c.if-cache-ne-WORDS.true)

pub returns : goal.returns
unfolding invalidate_call
returns c = rw (eq-eqb _ _ c.if-cache-ne-WORDS.false, c.invalidate_all.ensures)
