-- A memory request ends in an access fault only where an entry couldn't be fetched.
use mathlib.Core.Bool.{true}
use mathlib.Core.Path.{◌≡◌}
use Rattle.image.proofs.Unfetched.{every-inside, ends-unfetched}
use Rattle.dma.specs.Isolation.{access_fault, AccessMeansUnfetched}
use Rattle.dma.specs.Requests.{memory_rules}
use Rattle.dma.proofs.Forks.{Fork, Ends, memory-forks}

pub access-means-unfetched : AccessMeansUnfetched
access-means-unfetched registers request m =
    ends-unfetched (λ o. access_fault o ≡ true) m (memory_rules registers request) (every-inside Fork Ends (λ o. access_fault o ≡ true) (λ o ends. ends) 9 (memory_rules registers request) (memory-forks registers request))
