use Prim.Native.Nat.{ℕ, ◌+◌, ◌*◌, ◌-◌}
use mathlib.Core.Path.{◌≡◌, ap, sym, ◌∙◌}
use native.Mathlib.Omega.{arith}
use lib.ListN.{take, drop}
use Rattle.blocks.specs.Block.{entries_well}
use Rattle.blocks.proofs.Tested.{entry_next, entry-not, entry-end}
use Rattle.traced.specs.Decoded.{entry_well}
use Rattle.trace.proofs.entries_well.Goals as goal

pub returns-then-not-is_entry : goal.returns-then-not-is_entry
returns-then-not-is_entry c =
    let a = c.args in
    let i = c.loop-i.i in
    let here = ap (λ (at : ℕ). entry_well (take 32 (drop (8 + 32 * at) a.block.now))) c.from.ensures in
    sym
    (c.loop-i.invariant
    ∙ entry-not entry_well a.block.now (a.count - i) (8 + 32 * i) (omega arith) (sym here ∙ sym c.is_entry.ensures ∙ c.if-not-is_entry.true))

pub loop-i-preserved : goal.loop-i-preserved
loop-i-preserved c =
    let a = c.args in
    let i = c.loop-i.i in
    let here = ap (λ (at : ℕ). entry_well (take 32 (drop (8 + 32 * at) a.block.now))) c.from.ensures in
    let less : a.count - i - 1 ≡ a.count - (i + 1) = omega arith in
    let on : 8 + 32 * i + 32 ≡ 8 + 32 * (i + 1) = omega arith in
    c.loop-i.invariant
    ∙ entry_next entry_well a.block.now (a.count - i) (8 + 32 * i) (omega arith) (sym here ∙ sym c.is_entry.ensures ∙ c.if-not-is_entry.false)
    ∙ ap (λ (n : ℕ). entries_well entry_well n (drop (8 + 32 * i + 32) a.block.now)) less
    ∙ ap (λ (n : ℕ). entries_well entry_well (a.count - (i + 1)) (drop n a.block.now)) on

pub returns : goal.returns
returns c =
    let a = c.args in
    let i = c.loop-i.i in
    sym (c.loop-i.invariant ∙ entry-end entry_well a.block.now (a.count - i) (8 + 32 * i) (omega arith))
