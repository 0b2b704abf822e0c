use mathlib.Core.Path.{ap, sym}
use Rattle.translation.specs.Answers.{outcome_of, entry_of}
use Rattle.translation.specs.declared.TranslationAnswer.{TranslationAnswer}
use Rattle.packing.specs.Translations.{translation_bytes}
use Rattle.packing.proofs.FourWords.{low-alone}
use Rattle.galitzaf_translation.proofs.pack_translation.Goals as goal

pub returns-in-Passed : goal.returns-in-Passed
returns-in-Passed c =
    rw (c.head.ensures, low-alone c.in-Passed.address)
    (sym (ap (λ (a : TranslationAnswer). translation_bytes (outcome_of a) (entry_of a)) c.in-Passed.is))
