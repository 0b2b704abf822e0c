use Prim.Native.Nat.{ℕ, ◌+◌, ◌*◌, ◌-◌}
use mathlib.Core.Path.{◌≡◌, ap, sym, ◌∙◌}
use mathlib.Core.List.{◌++◌}
use native.Mathlib.Omega.{arith}
use borrow.Rule.Slice.PartMut.{put_mid}
use lib.ListN.{length, take, drop, set, replicate, length-take, length-drop}
use Rattle.blocks.proofs.Laid.{written_over, lowest-six, lowest-four, finished}
use Rattle.blocks.proofs.writing.fill.Goals as goal

pub returns : goal.returns
returns c =
    let buffer = c.args.buffer.now in
    let n = c.args.count in
    let behind : 508 - (8 + 32 * n) ≡ 500 - 32 * n = omega arith in
    let sized : length c.fill.new.self ≡ 500 - 32 * n = omega (arith, simp (length-take, length-drop) at c.fill.ensures.len) in
    let zeros = c.fill.ensures.after (λ y e. e) ∙ ap (λ (k : ℕ). replicate k 0) (sym c.fill.ensures.len ∙ sized) in
    let cleared = put_mid (8 + 32 * n) (508 - (8 + 32 * n)) buffer c.fill.new.self in
    let one : cleared ≡ take (8 + 32 * n) buffer ++ replicate (500 - 32 * n) 0 ++ drop (8 + 32 * n + (500 - 32 * n)) buffer =
    rw behind (written_over buffer (8 + 32 * n) (500 - 32 * n) zeros) in
    let headed = set (set cleared 0 0x56) 1 n in
    let two = written_over headed 2 6 (c.copy_from_slice.ensures.after ∙ lowest-six c.args.number c.to_le_bytes.ensures) in
    let last =
    written_over (put_mid 2 6 headed c.copy_from_slice.new.self) 508 4
    (c.copy_from_slice-2.ensures.after ∙ lowest-four c.sum-sum.result c.to_le_bytes-2.ensures) in
    finished buffer c.args.number n c.requires.1 c.requires.0 one two c.sum-sum.ensures last
