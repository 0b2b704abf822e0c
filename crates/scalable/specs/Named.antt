-- How many words a request in scalable mode names. Proved in proofs/Fifty.antt.
use Rattle.std.specs.Prelude.{◌≤◌, length}
use Rattle.image.specs.Memory.{Memory}
use Rattle.image.specs.Rules.{named}
use Rattle.pasid.specs.declared.ScalableRegisters.{ScalableRegisters}
use Rattle.scalable.specs.Requests.{scalable_rules}
use Rattle.scalable.specs.declared.ScalableRequest.{ScalableRequest}

-- never more than fifty words: 15 up to the PASID table entry, and of a nested translation 5 × (5 + 1) for its first-level entries, each found
-- through the second level, and 5 for its page
abbrev pub AtMostFifty : Type 0
AtMostFifty =
    (registers : ScalableRegisters) (request : ScalableRequest) (m : Memory) → length (named (scalable_rules registers request) m) ≤ 50
