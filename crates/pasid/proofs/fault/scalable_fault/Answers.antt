use Rattle.pasid.proofs.Records.{answered}
use Rattle.pasid.proofs.fault.scalable_fault.Goals as goal

pub returns : goal.returns
returns c =
    let s = c in
    answered s.args.fpd s.args.write s.args.source.id s.args.address s.args.pasid c.number-number.ensures c.may_record.ensures s.ranges.address.fits c.high_word.ensures.0 c.pasid_word.ensures.0
