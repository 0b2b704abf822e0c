-- A block changed in one byte is damaged, by the sum alone.
use Prim.Native.Nat.{ℕ, ◌+◌, ◌-◌, ◌^◌, ◌≤◌, ◌<◌}
use mathlib.Core.Path.{◌≡◌, ap, sym, ◌∙◌}
use mathlib.Core.List.{List}
use mathlib.Core.Bool.{Bool, true, false, ◌&&◌}
use native.Mathlib.Decide.{dec_le}
use native.Mathlib.Nat.{one-le-pow, eq_of_mul-eq-mul_left, eq_of_mul-eq-mul_right}
use native.Mathlib.Omega.{arith}
use borrow.Author.Tests.{ne_eqb}
use lib.Dec.{eqb, lit<}
use lib.ListN.{length, get_or, take, drop, set, length-drop}
use lib.Seq.{take-set-le, take-set-lt, drop-set-lt, drop-set-add, get_or-take, get_or-drop, length-take-le}
use Rattle.blocks.specs.Block.{count, headed, zeros, unused, sum_held, sum_of, framed, entries_well, well_laid, OneByteNamed}
use Rattle.blocks.proofs.Frames.{and_left, no_last, no-first, framed-length, framed-sum}
use Rattle.blocks.proofs.Sums.{weighed-set, spelled-set}

pub not-summed : (block : List ℕ) (place : ℕ) → (sum_held block ≡ sum_of block → ⊥) → framed block place ≡ false
unfolding framed
not-summed block place h =
    no_last (eqb (length block) 512 && headed block place && zeros (unused block)) (eqb (sum_held block) (sum_of block))
    (ne_eqb (sum_held block) (sum_of block) h)

pub well-framed : (well : List ℕ → Bool) (block : List ℕ) (place : ℕ) → well_laid well block place ≡ true → framed block place ≡ true
unfolding well_laid
well-framed well block place h = and_left (framed block place) (entries_well well (count block) (drop 8 block)) h

module _ (block : List ℕ) (i v : ℕ) (whole : length block ≡ 512) (inside : i < 512) (other : v ≡ get_or block i 0 → ⊥) where
  -- in the bytes that are summed
  front : i < 508 → sum_held block ≡ sum_of block → sum_held (set block i v) ≡ sum_of (set block i v) → ⊥
  front h right wrong =
      let within : i < length (take 508 block) = rw (length-take-le 508 block (omega arith)) h in
      let moved = weighed-set 0 i v (take 508 block) within in
      let sum = rw (take-set-lt 508 block i v h, drop-set-lt 508 block i v h) at wrong in
      let was = rw (get_or-take 508 block i 0 h) at moved in
      other (eq_of_mul-eq-mul_right (0 + i + 1) (omega arith) v (get_or block i 0) (omega arith))

  -- in the sum itself
  back : 508 ≤ i → sum_held block ≡ sum_of block → sum_held (set block i v) ≡ sum_of (set block i v) → ⊥
  back h right wrong =
      let place : i ≡ 508 + (i - 508) = omega arith in
      let within : i - 508 < length (take 4 (drop 508 block)) =
      rw (length-take-le 4 (drop 508 block) (simp length-drop (omega arith))) (omega arith) in
      let moved = spelled-set (i - 508) v (take 4 (drop 508 block)) within in
      let at : get_or (take 4 (drop 508 block)) (i - 508) 0 ≡ get_or block i 0 =
      get_or-take 4 (drop 508 block) (i - 508) 0 (omega arith) ∙ get_or-drop 508 block (i - 508) 0 ∙ ap (λ (n : ℕ). get_or block n 0) (sym place) in
      let held : take 4 (drop 508 (set block i v)) ≡ set (take 4 (drop 508 block)) (i - 508) v =
      ap (λ (n : ℕ). take 4 (drop 508 (set block n v))) place
      ∙ ap (λ (l : List ℕ). take 4 l) (drop-set-add 508 block (i - 508) v)
      ∙ take-set-lt 4 (drop 508 block) (i - 508) v (omega arith) in
      let sum = rw (take-set-le 508 block i v h, held) at wrong in
      let was = rw at at moved in
      other (eq_of_mul-eq-mul_left (256 ^ (i - 508)) (one-le-pow (i - 508) 256 (lit< tt)) v (get_or block i 0) (omega arith))

  changed : sum_held block ≡ sum_of block → sum_held (set block i v) ≡ sum_of (set block i v) → ⊥
  changed right wrong = go (dec_le 508 i)
    where
      go : Dec (508 ≤ i) → ⊥
      go (yes h) = back h right wrong
      go (no h) = front (omega arith) right wrong

pub one-byte-named : OneByteNamed
unfolding well_laid
one-byte-named well well' block place place' i v laid inside other =
    let was = well-framed well block place laid in
    no-first (framed (set block i v) place') (entries_well well' (count (set block i v)) (drop 8 (set block i v)))
    (not-summed (set block i v) place' (changed block i v (framed-length block place was) inside other (framed-sum block place was)))
