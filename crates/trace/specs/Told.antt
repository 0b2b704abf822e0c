-- Document 02, Ask 12: what a reader tells of a trace, block by block: each entry of a block that is laid out well, by block and
-- place, or that the block is damaged.
use Rattle.std.specs.Prelude.{ℕ, zero, suc, ◌+◌, ◌*◌, ◌/◌, List, [], ◌∷◌, ◌++◌, ◌≡◌, length, take, drop}
use Rattle.std.specs.Prelude.{if◌then◌else◌}
use Rattle.blocks.specs.Block.{count, well_laid}
use Rattle.traced.specs.Decoded.{entry_well}

pub data Told : Type 0 where
  -- an entry's 32 bytes, by its block and its place there, both from 0
  traced_at : (block index : ℕ) (bytes : List ℕ) → Told
  damaged_at : (block : ℕ) → Told

-- so many entries of a block, one behind the other, the first at an index
unfoldable pub entries_from : (block index n : ℕ) → List ℕ → List Told
entries_from block index zero bytes = []
entries_from block index (suc n) bytes = traced_at block index (take 32 bytes) ∷ entries_from block (suc index) n (drop 32 bytes)

unfoldable pub told_of : (block : List ℕ) (place : ℕ) → List Told
told_of block place =
    if well_laid entry_well block place then entries_from place 0 (count block) (drop 8 block) else damaged_at place ∷ []

-- n blocks from a place on; the last one may be short
unfoldable pub told_from : (n place : ℕ) → List ℕ → List Told
told_from zero place bytes = []
told_from (suc n) place bytes = told_of (take 512 bytes) place ++ told_from n (suc place) (drop 512 bytes)

abbrev pub blocks_in : (bytes : List ℕ) → ℕ
blocks_in bytes = (length bytes + 511) / 512

abbrev pub told : (bytes : List ℕ) → List Told
told bytes = told_from (blocks_in bytes) 0 bytes

-- what is told of one block doesn't depend on the others, nor what is told of them on it
abbrev pub OneBlock : Type 0
OneBlock = (m : ℕ) (front block rest : List ℕ) → length front ≡ 512 * m → length block ≡ 512
    → told (front ++ (block ++ rest)) ≡ told front ++ (told_of block m ++ told_from (blocks_in rest) (suc m) rest)
