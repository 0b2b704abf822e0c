use native.Mathlib.Nat.{mod-le}
use native.Mathlib.Omega.{arith}
use Rattle.mapping.proofs.search.block_end.Goals as goal

pub overflow_sub-result : goal.overflow_sub-result
overflow_sub-result c = omega (arith, mod-le c.args.address c.table_span-span.result)

pub returns : goal.returns
returns c =
    let a = c.args in
    let span = c.table_span-span.ensures in
    (rw span.0, omega (arith, mod-le a.address c.table_span-span.result, span.2))
