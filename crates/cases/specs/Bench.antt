-- Document 01's bench image and its twelve cases, as rows of one table.
use Rattle.std.specs.Prelude.{ℕ, ◌+◌, ◌-◌, Bool, true, false, List, [], ◌∷◌, ◌++◌, ◌≡◌, length, take, replicate, set}
use Rattle.image.specs.Bytes.{bytes_of, spell}
use Rattle.image.specs.Place.{Place, no_entry, entry_at}
use Rattle.image.specs.Windows.{flat}
use Rattle.registers.specs.declared.Registers.{Registers}
use Rattle.faults.specs.Record.{FaultAnswer}
use Rattle.dma.specs.Requests.{MemoryOutcome, granted, blocked, refused, memory_answer, memory_answer_place}
use Rattle.dma.specs.declared.MemoryRequest.{MemoryRequest}
use Rattle.interrupts.specs.Descriptor.{silent, notification}
use Rattle.interrupts.specs.Interrupts as interrupts
use Rattle.interrupts.specs.Post.{interrupt_written}
use Rattle.interrupts.specs.declared.InterruptRequest.{InterruptRequest}

-- the bytes from an address up to an end: zero but for words given as (address, value), in rising order of address
unfoldable pub layout : (from : ℕ) → List (ℕ × ℕ) → (end : ℕ) → List ℕ
layout from [] end = replicate (end - from) 0
layout from (w ∷ ws) end = replicate (w.0 - from) 0 ++ (bytes_of 8 w.1 ++ layout (w.0 + 8) ws end)

-- words that stand one behind the other from some addresses on, as (address, value)
unfoldable pub onward : (at : ℕ) → List ℕ → List (ℕ × ℕ) → List (ℕ × ℕ)
onward at [] others = others
onward at (v ∷ vs) others = (at, v) ∷ onward (at + 8) vs others

unfoldable pub in_words : List (ℕ × List ℕ) → List (ℕ × ℕ)
in_words [] = []
in_words (t ∷ ts) = onward t.0 t.1 (in_words ts)

-- its words, table by table
abbrev pub bench_words : List (ℕ × ℕ)
bench_words =
    in_words
    ((0x1030, 0x2001 ∷ [])
    ∷ (0x2100, 0x3001 ∷ 0x501 ∷ [])
    ∷ (0x3008, 0x4003 ∷ [])
    ∷ (0x4008, 0x5003 ∷ 0x40600083 ∷ 0x9003 ∷ 0x8000000003 ∷ 0x7003 ∷ [])
    ∷ (0x5008, 0x12345001 ∷ [])
    ∷ (0x6020, 0x0000070000410001 ∷ 0x40310 ∷ [])
    ∷ (0x6040, 0x0000640000318001 ∷ [])
    ∷ (0x6420, 0x0000070000F20000 ∷ [])
    ∷ (0x7FF8, 0x23456003 ∷ [])
    ∷ [])

unfoldable pub bench : List ℕ
bench = layout 0 bench_words 32768

-- with an interrupt table of 2^(s + 1) entries at an address, and TE
abbrev pub registers_with : (table s : ℕ) (te : Bool) → Registers
registers_with table s te =
    record {
      haw = 39;
      mgaw = 48;
      levels3 = true;
      levels4 = true;
      levels5 = false;
      pages_2m = true;
      pages_1g = true;
      posting = true;
      root_table = 0x1000;
      interrupt_table = table;
      s = s;
      te = te;
      ire = true;
      eime = false;
      cfis = false;
    }

-- with TE as given, on in the twelve cases
abbrev pub bench_with : (te : Bool) → Registers
bench_with te = registers_with 0x6000 3 te

abbrev pub bench_registers : Registers
bench_registers = bench_with true

-- bytes of an image that become others
unfoldable pub with_bytes : List (ℕ × ℕ) → List ℕ → List ℕ
with_bytes [] image = image
with_bytes (b ∷ bs) image = with_bytes bs (set image b.0 b.1)

-- what a case asks: a read or a write of an address, or an interrupt's address and data
pub data Ask : Type 0 where
  read : ℕ → Ask
  write : ℕ → Ask
  interrupt : (address message : ℕ) → Ask

-- what becomes of it, over the image as one window from 0: a memory request's outcome with the entry concerned, or an interrupt's with
-- the image at exit too
pub data Result : Type 0 where
  memory : MemoryOutcome → Place → Result
  interrupted : interrupts.InterruptOutcome → Place → List ℕ → Result

abbrev pub memory_request : (source address : ℕ) (writes : Bool) → MemoryRequest
memory_request source address writes = record { source = record { id = source }; address = address; write = writes }

abbrev pub interrupt_request : (source address message : ℕ) → InterruptRequest
interrupt_request source address message =
    record { source = record { id = source }; address = address; «data» = message }

abbrev pub memory_result : MemoryRequest → (image : List ℕ) → Result
memory_result request image =
    memory (memory_answer bench_registers request (flat (length image)) image) (memory_answer_place bench_registers request (flat (length image)) image)

abbrev pub interrupted_by : interrupts.InterruptOutcome → Place → (image : List ℕ) → Result
interrupted_by outcome place image = interrupted outcome place (interrupt_written (flat (length image)) outcome image)

-- the unit's answer under the bench registers
unfoldable pub result_of : (source : ℕ) → Ask → (image : List ℕ) → Result
result_of source (read address) image = memory_result (memory_request source address false) image
result_of source (write address) image = memory_result (memory_request source address true) image
result_of source (interrupt address message) image =
    interrupted_by (interrupts.interrupt_answer bench_registers (interrupt_request source address message) (flat (length image)) image)
    (interrupts.interrupt_answer_place bench_registers (interrupt_request source address message) (flat (length image)) image) image

-- a recordable fault by its reason and its record's two words
abbrev pub recorded_fault : (reason low high : ℕ) → FaultAnswer
recorded_fault reason low high = record { reason = reason; recordable = true; contents = spell (low ∷ high ∷ []) }

-- what a case answers: a host address, a fault with the address of the entry concerned, a refusal of a memory request, an interrupt's
-- outcome with the bytes that change, or an interrupt's fault
pub data Answer : Type 0 where
  host : ℕ → Answer
  fault : (reason low high entry : ℕ) → Answer
  refusal : (number : ℕ) → Answer
  becomes : interrupts.InterruptOutcome → List (ℕ × ℕ) → Answer
  stopped : (reason low high : ℕ) → Place → Answer

abbrev pub expected : Answer → (image : List ℕ) → Result
expected (host address) image = memory (granted address) no_entry
expected (fault reason low high entry) image = memory (blocked (recorded_fault reason low high)) (entry_at entry)
expected (refusal number) image = memory (refused number) no_entry
expected (becomes outcome bytes) image = interrupted outcome no_entry (with_bytes bytes image)
expected (stopped reason low high place) image = interrupted (interrupts.blocked (recorded_fault reason low high)) place image

pub record Row : Type 0 where
  pub number : ℕ
  pub image : List ℕ
  pub source : ℕ
  pub ask : Ask
  pub answer : Answer

abbrev pub row : (number : ℕ) (image : List ℕ) (source : ℕ) → Ask → Answer → Row
row number image source ask answer =
    record { number = number; image = image; source = source; ask = ask; answer = answer }

-- a fixed, edge-triggered interrupt to one destination
abbrev pub delivers : (vector destination : ℕ) → interrupts.InterruptOutcome
delivers vector destination =
    interrupts.remapped
    (record {
      destination_mode = false;
      redirection_hint = false;
      trigger = false;
      delivery = 0;
      vector = vector;
      destination = destination;
    })

-- document 01's rows, with document 02's entry addresses; record words that document 01 doesn't give follow from its rule
abbrev pub rows : List ℕ → List Row
rows image =
    row 1 image 0x0310 (read 0x40201ABC) (host 0x12345ABC)
    ∷ row 2 image 0x0310 (write 0x40201ABC) (fault 0x05 0x40201000 0x8000000500000310 0x5008)
    ∷ row 3 image 0x0310 (read 0x40202000) (fault 0x06 0x40202000 0xC000000600000310 0x5010)
    ∷ row 4 image 0x0310 (read 0x40412345) (host 0x40612345)
    ∷ row 5 image 0x0310 (read 0x40600000) (fault 0x07 0x40600000 0xC000000700000310 0x9000)
    ∷ row 6 image 0x0310 (read 0x40800000) (fault 0x0C 0x40800000 0xC000000C00000310 0x4020)
    -- its second row: with the image one byte shorter
    ∷ row 7 image 0x0310 (read 0x40BFF000) (host 0x23456000)
    ∷ row 7 (take 32767 image) 0x0310 (read 0x40BFF000) (fault 0x07 0x40BFF000 0xC000000700000310 0x7FF8)
    ∷ row 8 image 0x0310 (read 0x7FFFFFFFFF) (fault 0x06 0x7FFFFFF000 0xC000000600000310 0x3FF8)
    ∷ row 8 image 0x0310 (read 0x8000000000) (fault 0x04 0x8000000000 0xC000000400000310 0x2100)
    ∷ row 9 image 0x0410 (read 0x40201ABC) (fault 0x01 0x40201000 0xC000000100000410 0x1040)
    ∷ row 9 image 0x0311 (read 0x40201ABC) (fault 0x02 0x40201000 0xC000000200000311 0x2110)
    ∷ row 10 image 0x0310 (interrupt 0xFEE00050 0) (becomes (delivers 0x41 7) [])
    ∷ row 10 image 0x0311 (interrupt 0xFEE00050 0) (stopped 0x26 0x0002000000000000 0x8000002600000311 (entry_at 0x6020))
    -- index 65,538
    ∷ row 11 image 0x0310 (interrupt 0xFEEFFFFC 3) (stopped 0x21 0xFFFF000000000000 0x8000002100000310 no_entry)
    -- its second row: again, over what the first left
    ∷ row 12 image 0x0310 (interrupt 0xFEE00090 0)
    (becomes (interrupts.posted 0x6400 0x31 (notification 0xF2 7)) ((0x6406, 2) ∷ (0x6420, 1) ∷ []))
    ∷ row 12 (with_bytes ((0x6406, 2) ∷ (0x6420, 1) ∷ []) image) 0x0310 (interrupt 0xFEE00090 0)
    (becomes (interrupts.posted 0x6400 0x31 silent) [])
    -- document 02, Ask 2: the entry's URG with SN set; with ON already set; SN set without URG
    ∷ row 12 (with_bytes ((0x6041, 0xC0) ∷ (0x6420, 2) ∷ []) image) 0x0310 (interrupt 0xFEE00090 0)
    (becomes (interrupts.posted 0x6400 0x31 (notification 0xF2 7)) ((0x6406, 2) ∷ (0x6420, 3) ∷ []))
    ∷ row 12 (with_bytes ((0x6041, 0xC0) ∷ (0x6420, 1) ∷ []) image) 0x0310 (interrupt 0xFEE00090 0)
    (becomes (interrupts.posted 0x6400 0x31 silent) ((0x6406, 2) ∷ []))
    ∷ row 12 (with_bytes ((0x6420, 2) ∷ []) image) 0x0310 (interrupt 0xFEE00090 0)
    (becomes (interrupts.posted 0x6400 0x31 silent) ((0x6406, 2) ∷ []))
    ∷ []

-- what the rules answer to each row, and what each row says
unfoldable pub answers : List Row → List Result
answers [] = []
answers (r ∷ rs) = result_of r.source r.ask r.image ∷ answers rs

unfoldable pub said : List Row → List Result
said [] = []
said (r ∷ rs) = expected r.answer r.image ∷ said rs

unfoldable pub numbers : List Row → List ℕ
numbers [] = []
numbers (r ∷ rs) = r.number ∷ numbers rs

-- The twelve cases, as one claim. Proved in proofs/Cases.antt.
pub record TwelveCases : Type 0 where
  pub whole : length bench ≡ 32768
  -- none is left out: 7, 8, 9 and 10 have two rows each, 12 has two and three with URG or SN
  pub numbered : numbers (rows bench)
      ≡ 1 ∷ 2 ∷ 3 ∷ 4 ∷ 5 ∷ 6 ∷ 7 ∷ 7 ∷ 8 ∷ 8 ∷ 9 ∷ 9 ∷ 10 ∷ 10 ∷ 11 ∷ 12 ∷ 12 ∷ 12 ∷ 12 ∷ 12 ∷ []
  -- the rules answer what the rows say
  pub answered : answers (rows bench) ≡ said (rows bench)
