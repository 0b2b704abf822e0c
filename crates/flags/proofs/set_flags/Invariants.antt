use Rattle.std.proofs.Common.{◌≡◌, drop}
use Rattle.flags.specs.Flags.{set_flags}
use Rattle.flags.proofs.set_flags.Given as goal

-- setting the flags that are left leads to the same
abbrev pub invariant-loop-flag : goal.invariant-loop-flag
invariant-loop-flag l = set_flags l.windows (drop l.flag-index l.flags) l.image ≡ set_flags l.windows l.flags l.initial.image
