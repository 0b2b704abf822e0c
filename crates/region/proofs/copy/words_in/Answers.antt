use Rattle.std.proofs.Common.{◌-◌, ◌*◌, ◌/◌, length, ◌∙◌, arith}
use Rattle.image.specs.Answers.{memory_of}
use Rattle.region.proofs.Turns.{in_on, in_done}
use Rattle.region.proofs.copy.words_in.Goals as goal

pub loop-word-preserved : goal.loop-word-preserved
loop-word-preserved c =
    let l = c.loop-word in
    let a = c.args in
    in_on (memory_of a.memory.now) a.start l.copy (length a.copy.now / 8) l.word (omega arith) c.word_shown.ensures c.store8.ensures
    ∙ l.invariant

pub returns : goal.returns
returns c =
    let l = c.loop-word in
    let a = c.args in
    in_done (memory_of a.memory.now) a.start l.copy (length a.copy.now / 8 - l.word) (8 * l.word) (omega arith) ∙ l.invariant
