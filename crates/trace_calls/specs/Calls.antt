-- The calls on traces: what each answers, and what it leaves in the buffers lent to be written. The first line that applies decides.
use Rattle.std.specs.Prelude.{ℕ, Bool, not, ◌||◌, List, [], ◌∷◌, eqb, leb, length, get_or}
use Rattle.std.specs.Prelude.{if◌then◌else◌}
use Rattle.registers.specs.declared.Registers.{Registers}
use Rattle.blocks.specs.Block.{well_laid}
use Rattle.traced.specs.Decoded.{entry_well}
use Rattle.traced.specs.Entry.{entry_bytes}
use Rattle.traced.specs.declared.Traced.{Traced}
use Rattle.trace.specs.Reader as reader
use Rattle.trace.specs.Reader.{ReaderStep, block_at, step_at}
use Rattle.trace.specs.Writer.{Wrote, kept, full, refused, unfit, appending, closing}
use Rattle.trace.specs.declared.Cursor.{Cursor}
use Rattle.trace.specs.declared.writer.Writer.{Writer}
use Rattle.answered.specs.Answered.{plain}
use Rattle.replay.specs.Replayed as replay
use Rattle.replay.specs.Replayed.{Replayed, replay_at}
use Rattle.packing.specs.Status.{ok, bad_answer}
use Rattle.answered.specs.Packed.{packed_in}

-- ok is done, with nothing to take; here the buffer holds a block, to be taken before the next call
abbrev pub block_full : ℕ
block_full = 0x50

-- an entry is handed out; the block is damaged; there is no more
abbrev pub entry_handed : ℕ
entry_handed = 0x51

abbrev pub block_damaged : ℕ
block_damaged = 0x52

abbrev pub trace_end : ℕ
trace_end = 0x53

-- the answer now is the same; it differs
abbrev pub answer_same : ℕ
answer_same = 0x54

abbrev pub answer_differs : ℕ
answer_differs = 0x55

-- bad_answer is an answer that isn't 32 bytes, or none to a request of this kind; this is a writer or a place that isn't two numbers in range, or a block that isn't 512 bytes
abbrev pub bad_trace : ℕ
bad_trace = 0x107

-- a writer: how many entries the block holds, and the block's number
abbrev pub writer_in : (writer : List ℕ) → Writer
writer_in writer = record { count = get_or writer 0 0; number = get_or writer 1 0 }

-- not two numbers, or a writer or a length that the trace refuses
unfoldable pub bad_writer : (writer : List ℕ) (len : ℕ) → Bool
bad_writer writer len = not (eqb (length writer) 2) || unfit (writer_in writer) len

abbrev pub numbers_of : Writer → List ℕ
numbers_of w = w.count ∷ w.number ∷ []

abbrev pub status_of : (other : ℕ) → Wrote → ℕ
status_of other (kept w) = ok
status_of other (full w) = block_full
status_of other refused = other

abbrev pub writer_after : (writer : List ℕ) → Wrote → List ℕ
writer_after writer (kept w) = numbers_of w
writer_after writer (full w) = numbers_of w
writer_after writer refused = writer

-- the status, the writer and the block
abbrev pub wrote : (other : ℕ) (writer : List ℕ) → Wrote × List ℕ → ℕ × List ℕ × List ℕ
wrote other writer done = (status_of other done.0, writer_after writer done.0, done.1)

-- a request of a kind, to be given its answer
abbrev pub unanswered : (kind source address «data» : ℕ) → Traced
unanswered kind source address «data» = plain kind source address «data» 0 0 0 0

unfoldable pub append_call : (writer block : List ℕ) (kind source address «data» : ℕ) (answer : List ℕ) → ℕ × List ℕ × List ℕ
append_call writer block kind source address «data» answer =
    if bad_writer writer (length block) then (bad_trace, writer, block)
    else if not (eqb (length answer) 32) then (bad_answer, writer, block)
    else wrote bad_answer writer (appending (writer_in writer) block (packed_in (unanswered kind source address «data») answer))

unfoldable pub close_call : (writer block : List ℕ) → ℕ × List ℕ × List ℕ
close_call writer block =
    if bad_writer writer (length block) then (bad_trace, writer, block)
    else wrote bad_trace writer (closing (writer_in writer) block)

-- a place: a block's, and an entry's in it, below 15
unfoldable pub bad_cursor : (cursor : List ℕ) → Bool
bad_cursor cursor = not (eqb (length cursor) 2) || leb 15 (get_or cursor 1 0)

abbrev pub cursor_in : (cursor : List ℕ) → Cursor
cursor_in cursor = record { place = get_or cursor 0 0; index = get_or cursor 1 0 }

abbrev pub place_numbers : Cursor → List ℕ
place_numbers c = c.place ∷ c.index ∷ []

abbrev pub check_call : (bytes : List ℕ) (place : ℕ) → ℕ
check_call bytes place = if not (well_laid entry_well (block_at bytes place) place) then block_damaged else ok

-- the status, the next place, and the entry's bytes where one is handed out
abbrev pub stepped : (cursor entry : List ℕ) → ReaderStep → ℕ × List ℕ × List ℕ
stepped cursor entry (reader.entry e next) = (entry_handed, place_numbers next, entry_bytes e)
stepped cursor entry (reader.damaged next) = (block_damaged, place_numbers next, entry)
stepped cursor entry reader.end = (trace_end, cursor, entry)

unfoldable pub next_call : (bytes cursor entry : List ℕ) → ℕ × List ℕ × List ℕ
next_call bytes cursor entry =
    if bad_cursor cursor then (bad_trace, cursor, entry)
    else if not (eqb (length entry) 32) then (bad_answer, cursor, entry)
    else stepped cursor entry (step_at bytes (get_or cursor 0 0) (get_or cursor 1 0))

-- the status, the image, the next place, and the entry of the answer now, where it differs
abbrev pub rerun : (cursor entry : List ℕ) → Replayed × List ℕ → ℕ × List ℕ × List ℕ × List ℕ
rerun cursor entry (replay.alike next, image) = (answer_same, image, place_numbers next, entry)
rerun cursor entry (replay.differs e next, image) = (answer_differs, image, place_numbers next, entry_bytes e)
rerun cursor entry (replay.damaged next, image) = (block_damaged, image, place_numbers next, entry)
rerun cursor entry (replay.end, image) = (trace_end, image, cursor, entry)

unfoldable pub replay_call : Registers → (windows image bytes cursor entry : List ℕ) → ℕ × List ℕ × List ℕ × List ℕ
replay_call registers windows image bytes cursor entry =
    if bad_cursor cursor then (bad_trace, image, cursor, entry)
    else if not (eqb (length entry) 32) then (bad_answer, image, cursor, entry)
    else rerun cursor entry (replay_at registers windows image bytes (get_or cursor 0 0) (get_or cursor 1 0))
