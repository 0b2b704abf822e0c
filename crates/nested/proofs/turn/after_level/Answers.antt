use mathlib.Core.Bool.{false}
use lib.ListN.{take}
use Rattle.dma.specs.Page.{host_address}
use Rattle.nested.specs.Pages.{first_handed}
use Rattle.nested.proofs.Rests.{page-last, page-next}
use Rattle.nested.proofs.turn.after_level.Goals as goal

-- a page of the first level alone
pub returns-then-walk-ne3-clause-by_index : goal.returns-then-walk-ne3-clause-by_index
returns-then-walk-ne3-clause-by_index c =
    let w = c.args.walk in
    λ flags. rw (c.in-Page.is, c.host_address-host.ensures) (page-last w.space.registers w.space.entry w.asked.address w.asked.write c.in-Page.frame c.in-Page.of (host_address c.in-Page.of c.in-Page.frame w.asked.address) (take c.in-Page.count flags) c.if-walk-ne3.true)

-- a page at an intermediate address
pub returns-else-walk-ne3-clause-by_index : goal.returns-else-walk-ne3-clause-by_index
returns-else-walk-ne3-clause-by_index c =
    let w = c.args.walk in
    λ flags. rw (c.in-Page.is, c.host_address-host.ensures) (page-next w.space.registers w.space.entry w.asked.address w.asked.write c.in-Page.frame c.in-Page.of (host_address c.in-Page.of c.in-Page.frame w.asked.address) (first_handed false (take c.in-Page.count flags)) c.if-walk-ne3.false)
