use mathlib.Core.Path.{refl}
use native.Mathlib.Omega.{arith}
use Rattle.traced.proofs.Stored.{entry-stored}
use Rattle.traced.proofs.encode.Goals as goal

pub returns : goal.returns
returns c =
    let a = c.args in
    rw (c.store8-4.ensures, c.store8-3.ensures, c.store8-2.ensures, c.store8.ensures)
    (entry-stored c.head.result a.e.address c.message.result a.e.value (omega arith) (omega arith) (omega arith) (omega arith)
    a.buffer.now a.at a.e (omega arith) c.head.ensures refl c.message.ensures refl)
