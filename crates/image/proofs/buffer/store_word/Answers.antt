use Rattle.std.proofs.Common.{◌+◌, ◌-◌, refl, ◌∙◌, arith}
use Rattle.std.proofs.lemmas.Slice.{put_mid-paste}
use Rattle.image.specs.Bytes.{bytes_of}
use Rattle.image.proofs.WordBytes.{to_bytes}
use Rattle.image.proofs.buffer.store_word.Goals as goal

pub returns : goal.returns
unfolding bytes_of
returns c =
    let a = c.args in
    put_mid-paste a.at ((a.at + 8) - a.at) a.image.now _ (bytes_of 8 a.word) 8
    (c.copy_from_slice.ensures.after ∙ c.to_le_bytes.ensures ∙ to_bytes a.word) (omega arith) refl
