use native.Mathlib.Omega.{arith}
use Rattle.cache.proofs.Numbered.{level1-room, medium-as}
use Rattle.cache.proofs.keys.medium_key.Goals as goal

pub overflow_add-result : goal.overflow_add-result
overflow_add-result c =
    omega (arith, level1-room c.args.request.address c.args.request.source.id c.args.request.write c.requires.0 (omega arith), c.requires.1)

pub returns : goal.returns
returns c =
    let r = c.args.request in
    rw c.requires.1 (medium-as r.address r.source.id r.write c.requires.0 (omega arith))
