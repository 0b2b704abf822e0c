use Prim.Native.Nat.{ℕ, ◌*◌}
use mathlib.Core.Path.{ap, sym, ◌∙◌}
use mathlib.Core.Bool.{not}
use native.Mathlib.Nat.{add-sub_cancel_left}
use lib.ListN.{take, drop}
use Rattle.blocks.specs.Block.{well_laid}
use Rattle.traced.specs.Decoded.{entry_well}
use Rattle.trace.proofs.Tests.{short-laid}
use Rattle.trace.proofs.is_damaged.Goals as goal

pub returns-then-bytes-place : goal.returns-then-bytes-place
returns-then-bytes-place c =
    let a = c.args in
    sym (ap not (short-laid a.bytes.now a.place c.if-bytes-place.true))

pub returns : goal.returns
returns c =
    let a = c.args in
    ap not
    (c.is_well_laid.ensures
    ∙ ap (λ (n : ℕ). well_laid entry_well (take n (drop (512 * a.place) a.bytes.now)) a.place) (add-sub_cancel_left (512 * a.place) 512))
