use Rattle.std.proofs.Common.{◌≡◌, ◌-◌, ◌*◌, ◌/◌, length}
use Rattle.image.specs.Answers.{memory_of}
use Rattle.region.specs.Copy.{copied_in}
use Rattle.region.proofs.copy.words_in.Given as goal

-- What is left to copy leads to what the whole does.
abbrev pub invariant-loop-word : goal.invariant-loop-word
invariant-loop-word l =
    copied_in (memory_of l.memory) l.start (length l.initial.copy / 8 - l.word) (8 * l.word) l.copy
    ≡ copied_in (memory_of l.memory) l.start (length l.initial.copy / 8) 0 l.initial.copy
