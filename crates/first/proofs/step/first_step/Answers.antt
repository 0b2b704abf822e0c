use Prim.Native.Nat.{◌+◌, ◌*◌, ◌-◌, ◌≤◌}
use mathlib.Core.Path.{sym, ◌∙◌}
use native.Mathlib.Omega.{arith}
use lib.Dec.{lit≤}
use Rattle.image.proofs.Fields.{in-place-lt}
use Rattle.first.proofs.Reserved.{low-leaf}
use Rattle.first.proofs.step.first_step.Goals.{Then-leaf}
use Rattle.first.proofs.step.first_step.Goals as goal

low : (c : Then-leaf) → c.args.level ≤ 3
low c =
    let a = c.args in
    low-leaf a.registers a.entry.nxe a.e a.level (sym c.first_reserved.ensures ∙ c.if-first_reserved.false) (sym c.is_leaf-leaf.ensures ∙ c.if-leaf.true)

pub overflow_mul-level : goal.overflow_mul-level
overflow_mul-level c = omega (arith, low (goal.at.overflow_mul-level c).Then-leaf)

pub overflow_add-level : goal.overflow_add-level
overflow_add-level c = omega (arith, low (goal.at.overflow_add-level c).Then-leaf)

pub returns-then-leaf-clause-reachable : goal.returns-then-leaf-clause-reachable
returns-then-leaf-clause-reachable c =
    let a = c.args in
    let l = low (goal.at.returns-then-leaf-clause-reachable c).Then-leaf in
    (rw c.in_place-frame.ensures (in-place-lt a.e 51 (12 + 9 * (a.level - 1)) (omega (arith, l))), c.requires, l)

pub returns-clause-reachable : goal.returns-clause-reachable
returns-clause-reachable c = (rw c.in_place.ensures (omega arith), rw c.in_place.ensures (in-place-lt c.args.e 51 12 (lit≤ tt)))
