use mathlib.Core.Path.{refl}
use Rattle.faults.proofs.Contents.{translation-answered}
use Rattle.faults.proofs.fault.translation_fault.Goals as goal

-- Both words are as the law puts the record together.
pub returns : goal.returns
returns c =
    let s = c in
    translation-answered s.args.fpd s.args.source.id c.number-number.ensures c.may_record.ensures
    s.args.address s.ranges.address.fits c.high_word.ensures.0 refl
