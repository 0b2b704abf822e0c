use Rattle.std.proofs.Common.{sym, ◌∙◌, arith}
use Rattle.image.proofs.Stores.{stored, not-stored}
use Rattle.image.proofs.buffer.store8.Goals as goal

pub returns-then-image-lt8 : goal.returns-then-image-lt8
returns-then-image-lt8 c = let a = c.args in sym (not-stored a.image.now a.at a.word (omega arith))

pub returns-then-image-at : goal.returns-then-image-at
returns-then-image-at c =
    let a = c.args in
    sym (not-stored a.image.now a.at a.word (omega arith))

pub returns : goal.returns
returns c =
    let a = c.args in
    c.store_word.ensures ∙ sym (stored a.image.now a.at a.word (omega arith))
