use Rattle.std.proofs.Common.{refl, ◌+◌, arith}
use Rattle.image.specs.Windows.{window_at}
use Rattle.image.proofs.WindowRows.{part_off, part-wraps, part-is}
use Rattle.image.proofs.windows.bad_part.Goals as goal

pub returns-then-windows-i-ne0 : goal.returns-then-windows-i-ne0
returns-then-windows-i-ne0 c =
    let k = c in
    let a = k.args in
    part_off (window_at a.windows.now a.i) a.run (k.type_inv.windows (a.i + 1)).fits (k.type_inv.windows (a.i + 2)).fits
    c.if-windows-i-ne0.true

pub returns-then-end-place : goal.returns-then-end-place
returns-then-end-place c =
    let k = c in
    let a = k.args in
    part-wraps (window_at a.windows.now a.i) a.run (k.type_inv.windows (a.i + 1)).fits (k.type_inv.windows (a.i + 2)).fits
    (omega arith) (omega arith) refl c.if-end-place.true

pub returns : goal.returns
returns c =
    let k = c in
    let a = k.args in
    part-is (window_at a.windows.now a.i) a.run (k.type_inv.windows (a.i + 1)).fits (k.type_inv.windows (a.i + 2)).fits
    (omega arith) refl c.if-end-place.false
