-- An interrupt ends in an access fault only where an entry or a descriptor couldn't be fetched: no check stops with 23h or 27h.
use Rattle.image.proofs.Unfetched.{every-inside, ends-unfetched}
use Rattle.interrupts.specs.Claims.{AccessFault, InterruptAccessMeansUnfetched}
use Rattle.interrupts.specs.Interrupts.{interrupt_rules}
use Rattle.interrupts.proofs.Forks.{Fork, Ends, interrupt-forks}

pub interrupt-access-means-unfetched : InterruptAccessMeansUnfetched
interrupt-access-means-unfetched registers request m =
    ends-unfetched AccessFault m (interrupt_rules registers request)
    (every-inside Fork Ends AccessFault (λ o ends. ends) 10 (interrupt_rules registers request) (interrupt-forks registers request))
