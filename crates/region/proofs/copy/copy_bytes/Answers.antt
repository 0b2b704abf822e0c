use Rattle.std.proofs.Common.{◌≡◌, ◌+◌, ◌-◌, ◌*◌, ◌≤◌, length, take, drop, arith, rules, length-drop, drop-drop}
use Rattle.region.proofs.Laid.{none-yet, one-more}
use Rattle.region.proofs.copy.copy_bytes.Goals as goal

pub loop-n-init : goal.loop-n-init
loop-n-init c = let a = c.args in none-yet a.write (drop a.read a.from.now) a.to.now

pub loop-n-preserved : goal.loop-n-preserved
loop-n-preserved c =
    let a = c.args in
    let l = c.loop-n in
    let k = 64 * l.n in
    let width : (a.write + k + 64) - (a.write + k) ≡ 64 = omega arith in
    let next : 64 * (l.n + 1) ≡ k + 64 = omega arith in
    let fits : k ≤ length (drop a.read a.from.now) = rw (length-drop a.read a.from.now) (omega (arith, c.requires, c.loop-n-test.true)) in
    let part : c.copy_from_slice.new.self ≡ take 64 (drop (a.read + k) a.from.now) = search rules in
    rw (width, next)
    (one-more a.write (drop a.read a.from.now) a.to.now k 64 fits (omega (arith, c.requires, c.loop-n-test.true)) l.invariant (rw (← drop-drop k a.read a.from.now) at part))

pub returns : goal.returns
returns c =
    let size : 64 * c.loop-n.n ≡ c.args.size = omega (arith, c.requires, c.loop-n-test.false, c.loop-n.auto.n-end) in
    rw size at c.loop-n.invariant
