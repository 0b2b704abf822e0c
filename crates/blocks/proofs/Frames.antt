-- What a framed block has, and what is left of its test.
use Prim.Native.Nat.{ℕ, ◌≤◌}
use mathlib.Core.Path.{◌≡◌, refl}
use mathlib.Core.List.{List}
use mathlib.Core.Bool.{Bool, true, false, ◌&&◌}
use native.Mathlib.Omega.{arith}
use borrow.Author.Tests.{eqb-true, leb-true, eq-eqb}
use lib.Dec.{eqb, leb}
use lib.ListN.{length, get_or}
use Rattle.blocks.specs.Block.{count, number, headed, zeros, unused, sum_held, sum_of, framed}

-- of tests joined by and
pub and_left : (a b : Bool) → (a && b) ≡ true → a ≡ true
and_left true b h = refl
and_left false b h = h

pub and_right : (a b : Bool) → (a && b) ≡ true → b ≡ true
and_right true b h = h
and_right false b h = let z : ◌≡◌ {A = ℕ} 0 1 = cc in absurd (omega arith)

pub no_last : (a b : Bool) → b ≡ false → (a && b) ≡ false
no_last true b h = h
no_last false b h = refl

pub no-first : (a b : Bool) → a ≡ false → (a && b) ≡ false
no-first a b h = rw h

-- of a block's head: its count and its number
module _ (block : List ℕ) (place : ℕ) (h : headed block place ≡ true) where
  mark-and-count : (eqb (get_or block 0 0) 0x56 && leb 1 (count block) && leb (count block) 15) ≡ true
  unfolding headed
  mark-and-count = and_left (eqb (get_or block 0 0) 0x56 && leb 1 (count block) && leb (count block) 15) (eqb (number block) place) h

  pub headed-few : count block ≤ 15
  headed-few =
      leb-true (count block) 15
      (and_right (eqb (get_or block 0 0) 0x56 && leb 1 (count block)) (leb (count block) 15) mark-and-count)

  pub headed-some : 1 ≤ count block
  headed-some =
      leb-true 1 (count block)
      (and_right (eqb (get_or block 0 0) 0x56) (leb 1 (count block))
      (and_left (eqb (get_or block 0 0) 0x56 && leb 1 (count block)) (leb (count block) 15) mark-and-count))

-- of a block that is framed: its length, its head, its unused bytes and its sum
module _ (block : List ℕ) (place : ℕ) (h : framed block place ≡ true) where
  first_three : (eqb (length block) 512 && headed block place && zeros (unused block)) ≡ true
  unfolding framed
  first_three = and_left (eqb (length block) 512 && headed block place && zeros (unused block)) (eqb (sum_held block) (sum_of block)) h

  pub framed-length : length block ≡ 512
  framed-length =
      eqb-true (length block) 512
      (and_left (eqb (length block) 512) (headed block place)
      (and_left (eqb (length block) 512 && headed block place) (zeros (unused block)) first_three))

  pub framed-sum : sum_held block ≡ sum_of block
  unfolding framed
  framed-sum =
      eqb-true (sum_held block) (sum_of block)
      (and_right (eqb (length block) 512 && headed block place && zeros (unused block)) (eqb (sum_held block) (sum_of block)) h)

  pub framed-head : headed block place ≡ true
  framed-head =
      and_right (eqb (length block) 512) (headed block place)
      (and_left (eqb (length block) 512 && headed block place) (zeros (unused block)) first_three)

-- all of it but the sum
pub all-but-sum : (block : List ℕ) (place : ℕ) → length block ≡ 512 → headed block place ≡ true → zeros (unused block) ≡ true
    → framed block place ≡ eqb (sum_held block) (sum_of block)
unfolding framed
all-but-sum block place whole head blank = rw (eq-eqb (length block) 512 whole, head, blank)
