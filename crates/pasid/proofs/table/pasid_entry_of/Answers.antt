use Prim.Native.Nat.{◌<◌, ◌^◌}
use mathlib.Core.List.{[], ◌∷◌}
use mathlib.Core.Path.{◌≡◌}
use native.Mathlib.Omega.{arith}
use lib.Dec.{lit<}
use Rattle.image.specs.Bits.{bits}
use Rattle.image.specs.Answers.{number64, words64}
use Rattle.image.proofs.Fields.{in-first}
use Rattle.image.specs.Entry.{Words}
use Rattle.image.proofs.WordFields.{of_word}
use Rattle.pasid.proofs.table.pasid_entry_of.Goals as goal

pub returns : goal.returns
unfolding Words
returns c =
    let s = c in
    let e = s.args.e in
    let low : e.w0 < 2 ^ 64 = omega arith in
    let words : Words (words64 e) = (omega arith, (omega arith, (omega arith, (omega arith, (omega arith, (omega arith, (omega arith, (omega arith, tt)))))))) in
    let upper : bits (number64 e) 191 140 ≡ bits e.w2 63 12 = of_word 2 (words64 e) words 63 12 (lit< tt) in
    rw (in-first (e.w1 ∷ e.w2 ∷ e.w3 ∷ e.w4 ∷ e.w5 ∷ e.w6 ∷ e.w7 ∷ []) low 63 12 (lit< tt), upper, c.translation_type.ensures.0, c.in_place.ensures, c.address_width.ensures.0, c.in_place-2.ensures, c.paging_mode.ensures.0, c.bit.ensures, c.bit-2.ensures, c.bit-3.ensures, c.bit-4.ensures, c.bit-5.ensures, c.bit-6.ensures)
