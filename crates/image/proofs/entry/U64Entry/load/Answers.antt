use Rattle.image.specs.Memory.{word_at}
use Rattle.image.proofs.entry.U64Entry.load.Goals as goal

pub returns : goal.returns
unfolding word_at
returns c = c.word.ensures
