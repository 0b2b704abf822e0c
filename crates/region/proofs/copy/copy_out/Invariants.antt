use Rattle.std.proofs.Common.{◌≡◌, ◌-◌, ◌*◌, ◌/◌, length}
use Rattle.region.specs.Copy.{copied_out}
use Rattle.region.proofs.copy.copy_out.Given as goal

-- What is left to copy leads to what the whole does.
abbrev pub invariant-loop-word : goal.invariant-loop-word
invariant-loop-word l =
    copied_out l.windows l.copy l.start (length l.copy / 8 - l.word) (8 * l.word) l.image
    ≡ copied_out l.windows l.copy l.start (length l.copy / 8) 0 l.initial.image
