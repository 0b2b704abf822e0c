-- What holds of every interrupt request, whatever the registers, the request and the memory. What is answered is settled by any memory;
-- what is written is told by host address, over windows and a run of bytes. Each claim is proved under its name
-- in proofs/: Exact, Notifications, Named, Isolation, Unfetched.
use Rattle.std.specs.Prelude.{ℕ, ◌+◌, ◌*◌, ◌/◌, ◌%◌, ◌≤◌, ◌<◌, Bool, true, false, not, ◌&&◌, ◌||◌, List, [], ◌∷◌, ◌≡◌, eqb, length, get_or}
use Rattle.image.specs.Bits.{bits, bit}
use Rattle.std.specs.Prelude.{if◌then◌else◌}
use Rattle.image.specs.Memory.{Memory}
use Rattle.image.specs.Rules.{run, named, SameIn}
use Rattle.image.specs.Unfetched.{EndsUnfetched}
use Rattle.image.specs.Windows.{windows_of, here, spot_in, of_windows, byte_at, bad_windows}
use Rattle.registers.specs.declared.Registers.{Registers}
use Rattle.interrupts.specs.Descriptor.{Notification, silent, notification}
use Rattle.interrupts.specs.Interrupts.{InterruptOutcome, passed, remapped, posted, blocked, refused, interrupt_rules, interrupt_place, interrupt_answer}
use Rattle.interrupts.specs.Post.{interrupt_written}
use Rattle.interrupts.specs.Request.{handle_of}
use Rattle.interrupts.specs.declared.InterruptRequest.{InterruptRequest}

abbrev pub answer_over : Registers → InterruptRequest → Memory → InterruptOutcome
answer_over registers request m = run (interrupt_rules registers request) m

abbrev pub named_words : Registers → InterruptRequest → Memory → List ℕ
named_words registers request m = named (interrupt_rules registers request) m

-- a bit by its number from host address 0: bit n % 8 of the byte at host address n / 8
abbrev pub bit_at : (windows bytes : List ℕ) → ℕ → Bool
bit_at windows bytes n = bit (byte_at windows bytes (n / 8)) (n % 8)

abbrev pub due : Notification → Bool
due silent = false
due (notification vector destination) = true

-- whether an outcome sets a bit: a post sets the vector's request bit and, exactly with a notification, ON
abbrev pub sets : InterruptOutcome → (n : ℕ) → Bool
sets (posted descriptor vector m) n = eqb n (8 * descriptor + vector) || due m && eqb n (8 * descriptor + 256)
sets passed n = false
sets (remapped r) n = false
sets (blocked f) n = false
sets (refused number) n = false

-- every bit by host address is as it came, or set by the post, wherever the descriptor lies; so an answer that is no post leaves all
abbrev pub SetsExactly : Type 0
SetsExactly = (registers : Registers) (request : InterruptRequest) (windows bytes : List ℕ) (n : ℕ) →
    let o = interrupt_answer registers request windows bytes in
    bit_at windows (interrupt_written windows o bytes) n ≡ (bit_at windows bytes n || sets o n)

-- the index as the whole number that it is: with SHV the handle plus data 15:0, else the handle
abbrev pub whole_index : InterruptRequest → ℕ
whole_index request =
    handle_of request.address + (if bit request.address 3 then bits request.«data» 15 0 else 0)

-- the entry of that index
abbrev pub indexed_entry : Registers → InterruptRequest → ℕ
indexed_entry registers request = registers.interrupt_table + 16 * whole_index request

-- a post answers a notification exactly where ON was clear and either the entry's URG was set or SN was clear, so with SetsExactly ON goes
-- from 0 to 1 exactly with a notification; the premise says that the run is made of bytes
abbrev pub NotificationExactly : Type 0
NotificationExactly = (registers : Registers) (request : InterruptRequest) (windows bytes : List ℕ) → ((n : ℕ) → get_or bytes n 0 < 256) →
    (descriptor vector : ℕ) (m : Notification) → interrupt_answer registers request windows bytes ≡ posted descriptor vector m →
    due m ≡ (not (bit_at windows bytes (8 * descriptor + 256))
    && (bit_at windows bytes (8 * indexed_entry registers request + 14) || not (bit_at windows bytes (8 * descriptor + 257))))

-- a refused, blocked, passed or remapped request leaves every byte
abbrev pub LeavesAll : Type 0
LeavesAll = (registers : Registers) (request : InterruptRequest) (windows bytes : List ℕ) →
    let o = interrupt_answer registers request windows bytes in
    ((descriptor vector : ℕ) (m : Notification) → o ≡ posted descriptor vector m → ⊥) → interrupt_written windows o bytes ≡ bytes

-- a window shows a place of the run at a host address
abbrev pub Shows : (windows : List ℕ) (at place : ℕ) → Type 0
Shows windows at place = (left : ℕ) × (spot_in (windows_of windows) 1 at ≡ here place left)

-- the run keeps its length, the bits that a post sets lie in it, and a byte of it that no window shows is as it came
abbrev pub StaysInside : Type 0
StaysInside = (registers : Registers) (request : InterruptRequest) (windows bytes : List ℕ) →
    let o = interrupt_answer registers request windows bytes in
    (length (interrupt_written windows o bytes) ≡ length bytes)
    × ((n : ℕ) → sets o n ≡ true → (place : ℕ) × Shows windows (n / 8) place × (place < length bytes))
    × ((place : ℕ) → ((at : ℕ) → Shows windows at place → ⊥) → get_or (interrupt_written windows o bytes) place 0 ≡ get_or bytes place 0)

abbrev pub IndexBound : Type 0
IndexBound = (request : InterruptRequest) → whole_index request ≤ 131070

-- the entry that a request reads is that of its whole index
abbrev pub EntryOfIndex : Type 0
EntryOfIndex = (registers : Registers) (request : InterruptRequest) (m : Memory) (at : ℕ) (rest : List ℕ) →
    named_words registers request m ≡ at ∷ rest → at ≡ registers.interrupt_table + 16 * whole_index request

-- two requests that read the same entry have the same whole index: no sum wraps onto another's entry
abbrev pub NoWrap : Type 0
NoWrap = (registers : Registers) (request request' : InterruptRequest) (m m' : Memory) (at : ℕ) (rest rest' : List ℕ) →
    named_words registers request m ≡ at ∷ rest → named_words registers request' m' ≡ at ∷ rest' →
    whole_index request ≡ whole_index request'

-- the entry's two words and the descriptor's eight
abbrev pub AtMostTen : Type 0
AtMostTen = (registers : Registers) (request : InterruptRequest) (m : Memory) →
    length (named_words registers request m) ≤ 10

-- refused, passed, or blocked by 20h, 21h or 25h
abbrev pub before_table : InterruptOutcome → Bool
before_table passed = true
before_table (remapped r) = false
before_table (posted descriptor vector n) = false
before_table (blocked f) = eqb f.reason 0x20 || eqb f.reason 0x21 || eqb f.reason 0x25
before_table (refused number) = true

-- an answer given before the table names no word
abbrev pub NoneBeforeTable : Type 0
NoneBeforeTable = (registers : Registers) (request : InterruptRequest) (m : Memory) →
    before_table (answer_over registers request m) ≡ true → named_words registers request m ≡ []

-- an access fault: 23h or 27h
abbrev pub access_reason : (reason : ℕ) → Bool
access_reason reason = eqb reason 0x23 || eqb reason 0x27

abbrev pub AccessFault : InterruptOutcome → Type 0
AccessFault (blocked f) = access_reason f.reason ≡ true
AccessFault passed = ⊥
AccessFault (remapped r) = ⊥
AccessFault (posted descriptor vector n) = ⊥
AccessFault (refused number) = ⊥

-- it means an entry or a descriptor that couldn't be fetched: it isn't whole in the memory
abbrev pub InterruptAccessMeansUnfetched : Type 0
InterruptAccessMeansUnfetched = (registers : Registers) (request : InterruptRequest) (m : Memory) →
    AccessFault (answer_over registers request m) → EndsUnfetched (interrupt_rules registers request) m

-- the customer's demand 3 for interrupts: over a memory that has the same in the named words the same answer, the entry concerned among
-- its parts, unless it was an access fault
abbrev pub Isolated : Type 0
Isolated = (registers : Registers) (request : InterruptRequest) (m m' : Memory) →
    (AccessFault (answer_over registers request m) → ⊥) →
    SameIn (named_words registers request m) m m' →
    (answer_over registers request m ≡ answer_over registers request m')
    × (interrupt_place registers request m ≡ interrupt_place registers request m')

-- and so the same bits are set, by host address, both with windows that aren't refused
abbrev pub SameBits : Type 0
SameBits = (registers : Registers) (request : InterruptRequest) (windows bytes windows' bytes' : List ℕ) →
    bad_windows windows (length bytes) ≡ false → bad_windows windows' (length bytes') ≡ false →
    let m = of_windows windows bytes in
    (AccessFault (answer_over registers request m) → ⊥) → SameIn (named_words registers request m) m (of_windows windows' bytes') →
    (n : ℕ) → bit_at windows' (interrupt_written windows' (interrupt_answer registers request windows' bytes') bytes') n
    ≡ (bit_at windows' bytes' n || sets (interrupt_answer registers request windows bytes) n)
