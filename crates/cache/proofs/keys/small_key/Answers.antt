use native.Mathlib.Omega.{arith}
use Rattle.cache.proofs.Numbered.{small-as}
use Rattle.cache.proofs.keys.small_key.Goals as goal

pub returns : goal.returns
returns c =
    let r = c.args.request in
    rw c.kind.ensures (small-as r.address r.source.id r.write c.requires (omega arith))
