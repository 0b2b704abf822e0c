use Rattle.std.proofs.Common.{arith, lit≤}
use Rattle.image.proofs.Fields.{in-place-lt}
use Rattle.tables.specs.Tables.{table_of}
use Rattle.tables.proofs.entries.table_of.Goals as goal

pub returns : goal.returns
unfolding table_of
returns c =
    (omega (arith, c.in_place.ensures, c.saturating_sub.ensures), omega (arith, c.in_place.ensures, c.saturating_sub.ensures, in-place-lt c.args.e 51 12 (lit≤ tt)))
