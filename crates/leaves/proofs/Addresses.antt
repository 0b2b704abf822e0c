-- Address bits on the way down: the index of an entry in its table, and what stands above it.
use Prim.Native.Nat.{ℕ, suc, ◌+◌, ◌-◌, ◌*◌, ◌/◌, ◌%◌, ◌^◌, ◌<◌}
use mathlib.Core.Path.{◌≡◌}
use native.Mathlib.Omega.{arith}
use lib.Pow.{shr-shr, shr_lt}
use Rattle.image.specs.Bits.{bits}
use Rattle.dma.specs.Walk.{place_in}
use Rattle.tables.specs.Tables.{table_entry, table_of}

-- the address bits from a level's index up
abbrev pub above : (q n : ℕ) → ℕ
above q n = q / 2 ^ (12 + 9 * n)

abbrev pub index : (q n : ℕ) → ℕ
index q n = bits q (20 + 9 * n) (12 + 9 * n)

-- the entry on the way to an address in a page, counted from the region's start
abbrev pub number : (q page n : ℕ) → ℕ
number q page n = 512 * page + index q n

pub index_is : (q n : ℕ) → index q n ≡ above q n % 512
unfolding bits
index_is q n =
    let nine : suc (20 + 9 * n) - (12 + 9 * n) ≡ 9 = omega arith in
    rw nine

pub index-small : (q n : ℕ) → index q n < 512
index-small q n = omega (arith, index_is q n)

pub above-next : (q n : ℕ) → above q (suc n) ≡ above q n / 512
above-next q n =
    let more : 12 + 9 * suc n ≡ 12 + 9 * n + 9 = omega arith in
    rw (more, ← shr-shr q (12 + 9 * n) 9)

pub above-split : (q n : ℕ) → above q n ≡ 512 * above q (suc n) + index q n
above-split q n = omega (arith, index_is q n, above-next q n)

pub above-all : (q n : ℕ) → q < 2 ^ (12 + 9 * (n + 1)) → above q (suc n) ≡ 0
above-all q n h =
    let same : 0 + (12 + 9 * suc n) ≡ 12 + 9 * (n + 1) = omega arith in
    let none : above q (suc n) < 2 ^ 0 = shr_lt 0 (12 + 9 * suc n) (rw same h) in
    omega arith

pub placed : (q page n : ℕ) → place_in q (4096 * page) n ≡ 8 * number q page n
placed q page n = omega arith

-- the table that an entry made here leads to
pub table-back : (start page : ℕ) → start % 4096 ≡ 0 → start + 4096 * page < 2 ^ 52 → table_of start (table_entry start (4096 * page)) ≡ 4096 * page
unfolding table_of bits
table-back start page aligned fits = omega arith
