use Prim.Native.Nat.{suc, ◌-◌}
use mathlib.Core.Path.{◌≡◌, ◌∙◌}
use native.Mathlib.Omega.{arith}
use lib.ListN.{take}
use Rattle.std.proofs.lemmas.Result.{err_from_is_err_and}
use Rattle.image.specs.Answers.{memory_of}
use Rattle.image.specs.Place.{entry_at}
use Rattle.nested.specs.Pages.{first_handed}
use Rattle.nested.proofs.Firsts.{entered, entered_at}
use Rattle.nested.proofs.Rests.{onward, onward-at}
use Rattle.nested.proofs.Turns.{turned, failed}
use Rattle.nested.proofs.turn.take_turn.Goals as goal

-- a fault of the entry ends the walk
pub returns-in_err-step-in-Continue : goal.returns-in_err-step-in-Continue
returns-in_err-step-in-Continue c =
    let a = c.args in
    let w = a.walk in
    let s = a.position in
    let m = memory_of a.memory.now in
    let told = rw c.in-Continue.is at c.in_ok-here.ensures in
    let e = c.in_err-step-in-Continue.ensures in
    let given = first_handed s.top (take s.count a.flags.now) in
    let this : s.level ≡ suc (s.level - 1) = omega (arith, told.0) in
    let over = entered w.space.registers w.space.entry w.asked.address w.asked.write m (s.level - 1) s.at given told.4 in
    let stepped = rw this at e.flags_after in
    let there = entered_at w.space.registers w.space.entry w.asked.address w.asked.write m (s.level - 1) s.at given told.4 (entry_at s.last) in
    let p = err_from_is_err_and c.from_residual-in_err-step-in-Continue.result c.from_residual-in_err-step-in-Continue.ensures.1 in
    rw (p.1, p.2)
    (failed c.in_err-step-in-Continue.field-0.0 w s m a.flags.now c.level_entry.new.flags (entry_at c.in-Continue.here.at) e.level_names
    (onward w.space.registers w.space.entry w.asked.address w.asked.write m s.level s.at given told.0 _ (stepped ∙ over))
    (onward-at w.space.registers w.space.entry w.asked.address w.asked.write m s.level s.at given told.0 (entry_at s.last) there _ (stepped ∙ over)))

pub returns-in_ok-step-in-Continue : goal.returns-in_ok-step-in-Continue
returns-in_ok-step-in-Continue c =
    let a = c.args in
    let w = a.walk in
    let s = a.position in
    let m = memory_of a.memory.now in
    let told = rw c.in-Continue.is at c.in_ok-here.ensures in
    let n = c.after_level in
    let given = first_handed s.top (take s.count a.flags.now) in
    let this : s.level ≡ suc (s.level - 1) = omega (arith, told.0) in
    let over = entered w.space.registers w.space.entry w.asked.address w.asked.write m (s.level - 1) s.at given told.4 in
    let stepped = rw this at c.in_ok-step-in-Continue.ensures.flags_after in
    let there = entered_at w.space.registers w.space.entry w.asked.address w.asked.write m (s.level - 1) s.at given told.4 (entry_at s.last) in
    turned n.result w s m a.flags.now c.level_entry.new.flags _ (entry_at c.in-Continue.here.at) (n.ensures.by_index _) n.ensures.turn_last n.ensures.turn_fits
    (onward w.space.registers w.space.entry w.asked.address w.asked.write m s.level s.at given told.0 _ (stepped ∙ over))
    (onward-at w.space.registers w.space.entry w.asked.address w.asked.write m s.level s.at given told.0 (entry_at s.last) there _ (stepped ∙ over))
