-- Never more than fifty words for a request in scalable mode.
use Rattle.image.proofs.Forks.{every-named}
use Rattle.scalable.specs.Named.{AtMostFifty}
use Rattle.scalable.specs.Requests.{scalable_rules}
use Rattle.scalable.proofs.Requests.{request-forks}

pub at-most-fifty : AtMostFifty
at-most-fifty registers request m = every-named _ _ 50 (scalable_rules registers request) m (request-forks registers request)
