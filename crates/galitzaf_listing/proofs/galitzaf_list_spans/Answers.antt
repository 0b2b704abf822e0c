-- Each way out is a line of the definition.
use Prim.Native.Nat.{ℕ}
use mathlib.Core.Path.{sym, subst}
use native.Mathlib.Omega.{arith}
use lib.ListN.{length}
use borrow.Author.Tests.{eq-eqb, ne_eqb}
use Rattle.mapping.specs.Mapping.{Mapped, mapping_answer}
use Rattle.mapping.specs.Mapping as mapping
use Rattle.mapping.specs.Told.{room, told_of}
use Rattle.galitzaf_listing.specs.Listing.{Few, list_call}
use Rattle.galitzaf_listing.proofs.galitzaf_list_spans.Goals as goal

pub returns-then-malformed : goal.returns-then-malformed
unfolding list_call
returns-then-malformed c = rw (← c.malformed.ensures, c.if-malformed.true)

pub returns-then-windows-ne0 : goal.returns-then-windows-ne0
unfolding list_call
returns-then-windows-ne0 c = rw (← c.malformed.ensures, c.if-malformed.false, ne_eqb _ _ c.if-windows-ne0.true)

-- no more than 4,096 are ever counted
few-told : (n : ℕ) (answer : Mapped) → Few (told_of (room n) answer)
few-told n (mapping.refused number) = tt
few-told n mapping.passed = tt
few-told n (mapping.faulted reason) = tt
few-told n (mapping.spans_mapped spans) = omega arith

pub listing_status-requires : goal.listing_status-requires
listing_status-requires c =
    let a = c.args in
    subst Few (sym c.list_spans-listing.ensures.listed_as.0)
    (few-told (length a.spans.now) (mapping_answer c.unpack.result c.from-asked.result.id a.windows.now a.image.now))

pub returns : goal.returns
unfolding list_call
returns c =
    rw (
      ← c.malformed.ensures,
      c.if-malformed.false,
      eq-eqb _ _ c.if-windows-ne0.false,
      c.listing_status.ensures,
      c.list_spans-listing.ensures.listed_as.0,
      c.list_spans-listing.ensures.listed_as.1,
      c.list_spans-listing.ensures.known_after,
      c.unpack.ensures,
      c.from-asked.ensures,
    )
