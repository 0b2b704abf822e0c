use Prim.Native.Nat.{◌^◌}
use native.Mathlib.Nat.{lt_of_lt_of_le}
use lib.Dec.{lit≤}
use Rattle.image.specs.Answers.{number64}
use Rattle.image.proofs.Fields.{fits}
use Rattle.interrupts.proofs.descriptor.notification_destination.Goals as goal

pub overflow_cast-result : goal.overflow_cast-result
overflow_cast-result c = record { fits = rw c.bits.ensures (fits (number64 c.args.d) 319 288) }

pub returns-then-eime : goal.returns-then-eime
returns-then-eime c = rw c.if-eime.true c.bits.ensures

pub overflow_cast-result-2 : goal.overflow_cast-result-2
overflow_cast-result-2 c = record { fits = lt_of_lt_of_le {m = 2 ^ 8} (rw c.bits-2.ensures (fits (number64 c.args.d) 303 296)) (lit≤ tt) }

pub returns : goal.returns
returns c = rw c.if-eime.false c.bits-2.ensures
