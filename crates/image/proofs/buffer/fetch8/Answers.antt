use Rattle.std.proofs.Common.{[], ◌∷◌, sym, refl, ap, ◌∙◌, arith}
use Rattle.image.specs.Memory.{found}
use Rattle.image.proofs.Words.{words_in, fetched, outside, spell_one}
use Rattle.image.proofs.buffer.fetch8.Goals as goal

pub returns-then-image-lt8 : goal.returns-then-image-lt8
returns-then-image-lt8 c = let a = c.args in
    record {
      result_value = sym (outside a.image.now 0 a.at (omega arith));
      at_value = refl;
    }

pub returns-then-image-at : goal.returns-then-image-at
returns-then-image-at c = let a = c.args in
    record {
      result_value = sym (outside a.image.now 0 a.at (omega arith));
      at_value = refl;
    }

pub returns : goal.returns
unfolding words_in
returns c =
    let a = c.args in
    record {
      result_value = ap found (sym (spell_one c.word.result))
          ∙ fetched a.image.now 1 a.at (c.word.result ∷ []) (omega arith) cc;
      at_value = refl;
    }
