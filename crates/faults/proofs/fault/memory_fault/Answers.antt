use Rattle.faults.proofs.Contents.{memory-answered}
use Rattle.faults.proofs.fault.memory_fault.Goals as goal

-- Both words are as the law puts the record together.
pub returns : goal.returns
returns c =
    let s = c in
    memory-answered s.args.fpd s.args.source.id c.number-number.ensures c.may_record.ensures
    s.args.address s.args.write s.ranges.address.fits c.high_word.ensures.0
