use mathlib.Core.List.{List}
use mathlib.Core.Path.{ap, sym, ◌∙◌}
use Prim.Native.Nat.{ℕ}
use native.Mathlib.Omega.{arith}
use lib.ListN.{length-take}
use lib.Seq.{take_all}
use Rattle.image.specs.Windows.{bad_windows}
use Rattle.refused.proofs.bad_first.Goals as goal

pub returns-then-windows-count : goal.returns-then-windows-count
returns-then-windows-count c =
    let s = c in
    c.bad_windows.ensures
    ∙ ap (λ (l : List ℕ). bad_windows l s.args.run) (sym (take_all s.args.count s.args.windows.now c.if-windows-count.true))

pub slice_bounds-bad_windows-end : goal.slice_bounds-bad_windows-end
slice_bounds-bad_windows-end c = simp length-take (omega arith)

pub returns : goal.returns
returns c = c.bad_windows-2.ensures
