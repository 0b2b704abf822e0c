-- Document 02, Ask 12: a block of the trace, 512 bytes, over any test of an entry's 32 bytes.
use Rattle.std.specs.Prelude.{ℕ, zero, suc, ◌+◌, ◌*◌, ◌-◌, ◌<◌, List, [], ◌∷◌, Bool, true, false, ◌&&◌, ◌≡◌, eqb, leb, length, get_or, take, drop, set}
use Rattle.image.specs.Bytes.{little_endian}

-- byte 1 is the count of entries, bytes 2 to 7 are the block's number
abbrev pub count : (block : List ℕ) → ℕ
count block = get_or block 1 0

abbrev pub number : (block : List ℕ) → ℕ
number block = little_endian (take 6 (drop 2 block))

-- byte 0 is 56h, the count is 1 to 15, and the number is the block's place
unfoldable pub headed : (block : List ℕ) (place : ℕ) → Bool
headed block place = eqb (get_or block 0 0) 0x56 && leb 1 (count block) && leb (count block) 15 && eqb (number block) place

-- entries of 32 bytes stand from byte 8; the bytes behind them, up to 507, are unused
abbrev pub unused : (block : List ℕ) → List ℕ
unused block = take (508 - (8 + 32 * count block)) (drop (8 + 32 * count block) block)

unfoldable pub zeros : List ℕ → Bool
zeros [] = true
zeros (b ∷ bs) = eqb b 0 && zeros bs

-- the sum of byte times (place + 1), the first byte at place k
unfoldable pub weighed : (k : ℕ) → List ℕ → ℕ
weighed k [] = 0
weighed k (b ∷ bs) = b * (k + 1) + weighed (suc k) bs

-- bytes 508 to 511 hold the sum over bytes 0 to 507
abbrev pub sum_held : (block : List ℕ) → ℕ
sum_held block = little_endian (take 4 (drop 508 block))

abbrev pub sum_of : (block : List ℕ) → ℕ
sum_of block = weighed 0 (take 508 block)

-- all of it but the layout of the entries themselves
unfoldable pub framed : (block : List ℕ) (place : ℕ) → Bool
framed block place = eqb (length block) 512 && headed block place && zeros (unused block) && eqb (sum_held block) (sum_of block)

-- so many entries, one behind the other, pass a test of their 32 bytes
unfoldable pub entries_well : (well : List ℕ → Bool) (n : ℕ) → List ℕ → Bool
entries_well well zero bs = true
entries_well well (suc n) bs = well (take 32 bs) && entries_well well n (drop 32 bs)

-- a block is laid out well, entries included, with its place as number; any other is damaged
unfoldable pub well_laid : (well : List ℕ → Bool) (block : List ℕ) (place : ℕ) → Bool
well_laid well block place = framed block place && entries_well well (count block) (drop 8 block)

-- every block changed by one byte is damaged, by its sum alone: whatever test its entries passed, whatever test they are held
-- to then, and at whatever place it then stands
abbrev pub OneByteNamed : Type 0
OneByteNamed = (well well' : List ℕ → Bool) (block : List ℕ) (place place' i v : ℕ)
    → well_laid well block place ≡ true → i < 512 → (v ≡ get_or block i 0 → ⊥) → well_laid well' (set block i v) place' ≡ false
