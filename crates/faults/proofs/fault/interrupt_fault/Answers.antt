use Rattle.faults.proofs.Contents.{interrupt-answered}
use Rattle.faults.proofs.fault.interrupt_fault.Goals as goal

-- Both words are as the law puts the record together.
pub returns : goal.returns
returns c =
    let a = c.args in
    interrupt-answered a.fpd a.source.id c.number-number.ensures
    c.may_record.ensures a.index c.recorded_index.ensures.0 c.high_word.ensures.0
