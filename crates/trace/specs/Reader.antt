-- A reader's step over a trace, and its steps to the end.
use Rattle.std.specs.Prelude.{ℕ, zero, suc, ◌+◌, ◌*◌, ◌<◌, Bool, not, ◌&&◌, ◌||◌, List, [], ◌∷◌, ◌≡◌, eqb, leb, ltb, length, get_or, take, drop}
use Rattle.std.specs.Prelude.{if◌then◌else◌}
use Rattle.blocks.specs.Block.{count, well_laid}
use Rattle.traced.specs.Decoded.{Decoded, entry_well, decoded}
use Rattle.traced.specs.Decoded as of
use Rattle.traced.specs.Entry.{entry_bytes}
use Rattle.traced.specs.declared.Traced.{Traced}
use Rattle.trace.specs.Told.{Told, traced_at, damaged_at, told, blocks_in}
use Rattle.trace.specs.declared.Cursor.{Cursor}

-- the block at a place of a trace: 512 bytes, or fewer at the end
abbrev pub block_at : (bytes : List ℕ) (place : ℕ) → List ℕ
block_at bytes place = take 512 (drop (512 * place) bytes)

-- the entry that stands at the reader's place, a damaged block there, or the end; and the reader's next place
pub data ReaderStep : Type 0 where
  entry : Traced → Cursor → ReaderStep
  damaged : Cursor → ReaderStep
  end : ReaderStep

abbrev pub on_decoded : Decoded → ReaderStep → (Traced → ReaderStep) → ReaderStep
on_decoded of.malformed none some = none
on_decoded (of.entry e) none some = some e

-- behind an entry comes the next one of its block, then the next block
abbrev pub behind : (n place index : ℕ) → Cursor
behind n place index =
    if ltb (index + 1) n then record { place = place; index = index + 1 } else record { place = place + 1; index = 0 }

-- a block is judged when its first entry is asked for. There is no 16th entry, and a short block has none
abbrev pub shut : (bytes : List ℕ) (place index : ℕ) → Bool
shut bytes place index =
    leb 15 index || ltb (length bytes) (512 * place + 512) || eqb index 0 && not (well_laid entry_well (block_at bytes place) place)

unfoldable pub step_at : (bytes : List ℕ) (place index : ℕ) → ReaderStep
step_at bytes place index =
    if leb (length bytes) (512 * place) then end
    else if shut bytes place index then damaged (record { place = place + 1; index = 0 })
    else
    on_decoded (decoded (take 32 (drop (512 * place + 8 + 32 * index) bytes))) (damaged (record { place = place + 1; index = 0 }))
    (λ e. entry e (behind (count (block_at bytes place)) place index))

-- what a step at a place tells, and what the steps from its next place do
abbrev pub on_reader_step : (place index : ℕ) → ReaderStep → (Cursor → List Told) → List Told
on_reader_step place index (entry e next) after = traced_at place index (entry_bytes e) ∷ after next
on_reader_step place index (damaged next) after = damaged_at place ∷ after next
on_reader_step place index end after = []

-- at most n steps, from a place on
unfoldable pub steps : (n : ℕ) (bytes : List ℕ) (place index : ℕ) → List Told
steps zero bytes place index = []
steps (suc n) bytes place index = on_reader_step place index (step_at bytes place index) (λ next. steps n bytes next.place next.index)

-- the steps from the first block on tell what there is to tell, each once and in order
abbrev pub ToldInSteps : Type 0
ToldInSteps = (bytes : List ℕ) → ((i : ℕ) → get_or bytes i 0 < 256)
    → (n : ℕ) → 16 * blocks_in bytes < n → steps n bytes 0 0 ≡ told bytes
