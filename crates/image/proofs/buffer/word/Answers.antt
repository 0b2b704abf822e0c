use Rattle.std.proofs.Common.{◌≡◌, take, drop, ◌∙◌, arith, rules, length-take, length-drop}
use Rattle.std.specs.Int.{w64, from_le_bytes}
use Rattle.image.specs.Memory.{word_at}
use Rattle.image.proofs.WordBytes.{from-bytes}
use Rattle.image.proofs.buffer.word.Goals as goal

pub returns : goal.returns
unfolding word_at
returns c =
    let a = c.args in
    let told : c.from_le_bytes.result ≡ from_le_bytes w64 (take 8 (drop a.at a.image.now)) = search rules in
    told ∙ from-bytes (take 8 (drop a.at a.image.now)) (rw (length-take, length-drop) (omega arith))
