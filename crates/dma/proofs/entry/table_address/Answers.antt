use Prim.Native.Nat.{ℕ, ◌<◌, ◌^◌}
use mathlib.Core.Path.{ap, sym, ◌∙◌}
use native.Mathlib.Omega.{arith}
use lib.Dec.{lit<}
use Rattle.image.proofs.Fields.{low_field}
use Prim.Native.Nat.{◌*◌}
use Rattle.dma.proofs.entry.table_address.Goals as goal

pub returns : goal.returns
returns c =
    let low : c.args.e.low < 2 ^ 64 = omega arith in
    let high : c.args.e.high < 2 ^ 64 = omega arith in
    c.in_place.ensures ∙ ap (λ (n : ℕ). n * 2 ^ 12) (sym (low_field low high 63 12 (lit< tt)))
