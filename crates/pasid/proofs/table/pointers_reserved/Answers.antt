use Prim.Native.Nat.{◌<◌, ◌+◌, ◌^◌}
use mathlib.Core.List.{[], ◌∷◌}
use mathlib.Core.Path.{◌≡◌}
use native.Mathlib.Omega.{arith}
use lib.Dec.{lit<}
use Rattle.registers.proofs.Powers.{from-bit}
use Rattle.image.specs.Bits.{bits}
use Rattle.image.specs.Answers.{number64, words64}
use Rattle.image.proofs.Fields.{in-first}
use Rattle.image.specs.Entry.{Words}
use Rattle.image.proofs.WordFields.{of_word}
use Rattle.pasid.specs.Table.{pointers_reserved}
use Rattle.pasid.proofs.table.pointers_reserved.Goals as goal

pub returns : goal.returns
unfolding pointers_reserved Words
returns c =
    let s = c in
    let e = s.args.e in
    let haw = s.args.haw in
    let low : e.w0 < 2 ^ 64 = omega arith in
    let third : e.w2 < 2 ^ 64 = omega arith in
    let words : Words (words64 e) = (omega arith, (omega arith, (omega arith, (omega arith, (omega arith, (omega arith, (omega arith, (omega arith, tt)))))))) in
    let upper : bits (number64 e) 191 (128 + haw) ≡ bits e.w2 63 haw = of_word 2 (words64 e) words 63 haw (lit< tt) in
    rw (in-first (e.w1 ∷ e.w2 ∷ e.w3 ∷ e.w4 ∷ e.w5 ∷ e.w6 ∷ e.w7 ∷ []) low 63 haw (lit< tt), upper, from-bit haw low, from-bit haw third, c.at_or_above_power.ensures, c.at_or_above_power-2.ensures)
