use Rattle.std.proofs.Common.{arith}
use Rattle.registers.proofs.Good.{good, below-most}
use Rattle.region.proofs.shared.shares_tables.Goals as goal

pub interrupt_entries-entries-requires : goal.interrupt_entries-entries-requires
interrupt_entries-entries-requires c = (good c.args.registers c.requires.0).s

pub any_named-requires : goal.any_named-requires
any_named-requires c =
    let g = good c.args.registers c.requires.0 in
    let r = below-most g g.root.below in
    (c.requires.1, omega (arith, g.root.aligned), omega (arith, r))

pub any_named-requires-else-meets-2 : goal.any_named-requires-else-meets-2
any_named-requires-else-meets-2 c =
    let g = good c.args.registers c.requires.0 in
    let r = below-most g g.interrupt.below in
    (c.requires.1, omega (arith, g.interrupt.aligned), omega (arith, r, c.interrupt_entries-entries.ensures.2))
