use mathlib.Core.List.{[], ◌∷◌}
use mathlib.Core.Path.{◌≡◌, ◌∙◌}
use native.Mathlib.Omega.{arith}
use Rattle.image.specs.Bits.{bits}
use Rattle.image.specs.Answers.{number64, words64}
use Rattle.image.specs.Bytes.{spell}
use Rattle.image.proofs.Fields.{whole}
use Rattle.image.specs.Entry.{Words}
use Rattle.image.proofs.WordFields.{from-word, words-below, some_word}
use Rattle.image.proofs.Words.{spell_one}
use Rattle.interrupts.proofs.descriptor.upper_set.Goals as goal

-- Bits 511:320 are the last three words.
pub returns : goal.returns
unfolding Words
returns c =
    let d = c.args.d in
    let last = d.w5 ∷ d.w6 ∷ d.w7 ∷ [] in
    let words : Words last = (omega arith, (omega arith, (omega arith, tt))) in
    let all : Words (words64 d) = (omega arith, (omega arith, (omega arith, (omega arith, (omega arith, words))))) in
    let upper : bits (number64 d) 511 320 ≡ spell last = from-word 5 (words64 d) all 191 0 ∙ whole (spell last) 191 (words-below last words) in
    rw (upper, some_word d.w5 (d.w6 ∷ d.w7 ∷ []), some_word d.w6 (d.w7 ∷ []), spell_one d.w7)
