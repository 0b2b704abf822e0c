-- Each block is told by itself.
use Prim.Native.Nat.{ℕ, zero, suc, ◌+◌, ◌*◌}
use mathlib.Core.Path.{◌≡◌, ap, sym, ◌∙◌}
use mathlib.Core.List.{List, [], ◌∷◌, ◌++◌, append_assoc}
use native.Mathlib.Nat.{add-zero, zero-add, suc-add}
use native.Mathlib.Omega.{arith}
use lib.ListN.{length, take, drop, length-append, length-drop, take-append-drop}
use lib.Seq.{take_at, drop_at, length-take-le}
use Rattle.trace.specs.Told.{told_of, told_from, blocks_in, OneBlock}

-- a whole block, then the others
pub block-first : (n place : ℕ) (block rest : List ℕ) → length block ≡ 512
    → told_from (suc n) place (block ++ rest) ≡ told_of block place ++ told_from n (suc place) rest
unfolding told_from
block-first n place block rest whole = rw (take_at block rest 512 whole, drop_at block rest 512 whole)

-- whole blocks, and what stands behind them
pub beside : (m n place : ℕ) (front rest : List ℕ) → length front ≡ 512 * m
    → told_from (m + n) place (front ++ rest) ≡ told_from m place front ++ told_from n (place + m) rest
unfolding told_from
beside zero n place [] rest whole = rw (zero-add n, add-zero place)
beside zero n place (b ∷ bs) rest whole = absurd (omega arith)
beside (suc m) n place front rest whole =
    let first : length (take 512 front) ≡ 512 = length-take-le 512 front (omega arith) in
    let others : length (drop 512 front) ≡ 512 * m = simp length-drop (omega arith) in
    let split : front ++ rest ≡ take 512 front ++ (drop 512 front ++ rest) =
    ap (λ (l : List ℕ). l ++ rest) (sym (take-append-drop 512 front)) ∙ append_assoc (take 512 front) (drop 512 front) rest in
    let next : suc place + m ≡ place + suc m = omega arith in
    rw (suc-add m n, split, block-first (m + n) place (take 512 front) (drop 512 front ++ rest) first, beside m n (suc place) (drop 512 front) rest others, next)
    (sym (append_assoc (told_of (take 512 front) place) (told_from m (suc place) (drop 512 front)) (told_from n (place + suc m) rest)))

pub one_block : OneBlock
one_block m front block rest whole one =
    let all : length (front ++ (block ++ rest)) ≡ 512 * m + (512 + length rest) = simp (length-append, whole, one) in
    let many : blocks_in (front ++ (block ++ rest)) ≡ m + suc (blocks_in rest) = rw all (omega arith) in
    let few : blocks_in front ≡ m = omega arith in
    rw (many, few, beside m (suc (blocks_in rest)) 0 front (block ++ rest) whole, zero-add m, block-first (blocks_in rest) m block rest one)
