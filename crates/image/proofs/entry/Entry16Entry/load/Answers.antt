use Rattle.std.proofs.Common.{[], ◌∷◌, arith}
use Rattle.image.proofs.Words.{words_in, read-words}
use Rattle.image.proofs.entry.Entry16Entry.load.Goals as goal

pub returns : goal.returns
unfolding words_in
returns c =
    let a = c.args in
    read-words a.image.now 2 a.from (c.word.result ∷ c.word-2.result ∷ []) (omega arith) cc
