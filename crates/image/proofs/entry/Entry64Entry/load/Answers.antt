use Rattle.std.proofs.Common.{add_assoc, arith}
use Rattle.image.proofs.Words.{words_in, read-words}
use Rattle.image.proofs.entry.Entry64Entry.load.Goals as goal

pub returns : goal.returns
unfolding words_in
returns c =
    let a = c.args in
    read-words a.image.now 8 a.from _ (omega arith) (simp add_assoc cc)
