use Rattle.std.proofs.Common.{◌≡◌, ◌+◌, ◌*◌, ◌++◌, take, drop}
use Rattle.region.proofs.copy.copy_bytes.Given as goal

-- The parts so far are copied.
abbrev pub invariant-loop-n : goal.invariant-loop-n
invariant-loop-n l =
    l.to ≡ take l.write l.initial.to ++ take (64 * l.n) (drop l.read l.from) ++ drop (l.write + 64 * l.n) l.initial.to
