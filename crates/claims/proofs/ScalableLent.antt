-- Demand 3 for requests in scalable mode, over lent memory.
use Prim.Native.Nat.{◌≤◌}
use Rattle.image.specs.Rules.{named}
use Rattle.scalable.specs.Requests.{scalable_rules}
use Rattle.scalable.proofs.Isolation.{scalable-locality}
use Rattle.rights.specs.Rights.{walked_by_any}
use Rattle.rights.proofs.Aligned.{aligned-walked}
use Rattle.rights.proofs.More.{scalable-more-memory}
use Rattle.rights.proofs.Rights.{scalable-rights-on, scalable-rights-off}
use Rattle.unit.specs.Lent.{memory_of}
use Rattle.unit.proofs.Demand3.{same-words}
use Rattle.unit.proofs.HostBytes.{words-switched, words-kept}
use Rattle.claims.specs.ScalableLent.{ScalableIsolation}

pub scalable-isolation : ScalableIsolation
scalable-isolation =
    record {
      alike = λ r q l l' answered same.
          rw (l.good, l'.good)
          (scalable-locality r q (memory_of l) (memory_of l') (rw l.good at answered)
          (same-words l l' (named (scalable_rules r q) (memory_of l)) same));
      more-memory = λ r q l l' address all was.
          rw (l.good, l'.good) (scalable-more-memory r q (memory_of l) (memory_of l') address (words-kept l l' all) (rw l.good at was));
      rights-on = λ r walkers q l l' apart on address was.
          rw (l.good, l'.good)
          (scalable-rights-on r walkers q (memory_of l) (memory_of l') apart
          (words-switched (λ before after. before ≤ after) (walked_by_any r walkers (memory_of l)) l l' (aligned-walked r walkers (memory_of l)) on) address
          (rw l.good at was));
      rights-off = λ r walkers q l l' apart off denied address was.
          scalable-rights-off r walkers q (memory_of l) (memory_of l') apart
          (words-switched (λ before after. after ≤ before) (walked_by_any r walkers (memory_of l)) l l' (aligned-walked r walkers (memory_of l)) off)
          (rw l.good at denied) address (rw l'.good at was);
    }
