use borrow.Author.Rules.{rules}
use Rattle.image.specs.Bits.{bits}
use Rattle.registers.proofs.source_id.SourceId.bus.Goals as goal

pub returns : goal.returns
unfolding bits
returns c = search rules
