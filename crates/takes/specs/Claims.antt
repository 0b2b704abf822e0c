-- Ask 13's claims: of each take, and over every run of interrupt requests and takes, by host address. The windows stay; where they are
-- refused, so is each operation. A premise says that the lent run is made of bytes. Each claim is proved under its name in proofs/: Takes,
-- HandedOut, Conserved, Orders.
use Rattle.std.specs.Prelude.{ℕ, ◌+◌, ◌*◌, ◌%◌, ◌≤◌, ◌<◌, Bool, true, false, not, ◌&&◌, ◌||◌, List, [], ◌∷◌, ◌⊎◌, ◌≡◌, eqb, length, get_or}
use Rattle.image.specs.Choice.{one-if}
use Rattle.registers.specs.declared.Registers.{Registers}
use Rattle.interrupts.specs.Claims.{bit_at, indexed_entry, Shows}
use Rattle.interrupts.specs.Descriptor.{Notification}
use Rattle.interrupts.specs.Interrupts.{posted, interrupt_answer}
use Rattle.interrupts.specs.declared.InterruptRequest.{InterruptRequest}
use Rattle.takes.specs.Runs.{Operation, request, left, count_in, stands, standing_from, takes_at, hands_out, posts_at, posts_clear, notifications}
use Rattle.takes.specs.Take as rules
use Rattle.takes.specs.Take.{TakeOutcome, take_written, take_answer}

-- whether a take clears a bit: ON, and the request bit that it hands out
abbrev pub clears : (descriptor : ℕ) → TakeOutcome → (n : ℕ) → Bool
clears descriptor (rules.handed vector) n = eqb n (8 * descriptor + vector) || eqb n (8 * descriptor + 256)
clears descriptor rules.none n = eqb n (8 * descriptor + 256)
clears descriptor (rules.refused number) n = false

-- every bit by host address is as it came, or cleared by the take; so a refused one leaves all
abbrev pub ClearsExactly : Type 0
ClearsExactly = (registers : Registers) (descriptor : ℕ) (windows bytes : List ℕ) (n : ℕ) →
    let o = take_answer registers descriptor windows bytes in
    bit_at windows (take_written windows descriptor o bytes) n ≡ (bit_at windows bytes n && not (clears descriptor o n))

-- the run keeps its length, and a byte of it that no window shows is as it came
abbrev pub TakesStayInside : Type 0
TakesStayInside = (registers : Registers) (descriptor : ℕ) (windows bytes : List ℕ) →
    let o = take_answer registers descriptor windows bytes in
    (length (take_written windows descriptor o bytes) ≡ length bytes)
    × ((place : ℕ) → ((at : ℕ) → Shows windows at place → ⊥) → get_or (take_written windows descriptor o bytes) place 0 ≡ get_or bytes place 0)

-- what is handed out stands, and none above it does; where the answer is none, none stands
abbrev pub HandsHighest : Type 0
HandsHighest = (registers : Registers) (descriptor : ℕ) (windows bytes : List ℕ) → ((n : ℕ) → get_or bytes n 0 < 256) → (vector : ℕ) →
    take_answer registers descriptor windows bytes ≡ rules.handed vector →
    (vector < 256) × (stands windows descriptor bytes vector ≡ true)
    × ((k : ℕ) → vector < k → k < 256 → stands windows descriptor bytes k ≡ false)

abbrev pub NoneStands : Type 0
NoneStands = (registers : Registers) (descriptor : ℕ) (windows bytes : List ℕ) → ((n : ℕ) → get_or bytes n 0 < 256) →
    take_answer registers descriptor windows bytes ≡ rules.none → (k : ℕ) → k < 256 → stands windows descriptor bytes k ≡ false

-- as long as a vector that stands is not handed out, fewer takes were made there than bits stood at or above it, itself
-- included, and were posted since, each post counted. The run may hold anything else: takes and posts elsewhere, requests that
-- are refused, faults, takes that are refused, posts that change interrupt entries
abbrev pub FewerUntilHandedOut : Type 0
FewerUntilHandedOut = (windows : List ℕ) (descriptor vector : ℕ) (bytes : List ℕ) → ((n : ℕ) → get_or bytes n 0 < 256) → vector < 256 →
    stands windows descriptor bytes vector ≡ true → (run : List Operation) →
    count_in windows (hands_out windows descriptor vector) run bytes ≡ 0 →
    count_in windows (takes_at windows descriptor) run bytes
    < standing_from windows descriptor vector bytes + count_in windows (posts_at windows descriptor vector) run bytes

-- so it is handed out within so many takes
abbrev pub HandedOutWithin : Type 0
HandedOutWithin = (windows : List ℕ) (descriptor vector : ℕ) (bytes : List ℕ) → ((n : ℕ) → get_or bytes n 0 < 256) → vector < 256 →
    stands windows descriptor bytes vector ≡ true → (run : List Operation) →
    standing_from windows descriptor vector bytes + count_in windows (posts_at windows descriptor vector) run bytes
    ≤ count_in windows (takes_at windows descriptor) run bytes →
    0 < count_in windows (hands_out windows descriptor vector) run bytes

-- and within 256 where nothing is posted there at or above it meanwhile
abbrev pub HandedOutWithin256 : Type 0
HandedOutWithin256 = (windows : List ℕ) (descriptor vector : ℕ) (bytes : List ℕ) → ((n : ℕ) → get_or bytes n 0 < 256) → vector < 256 →
    stands windows descriptor bytes vector ≡ true → (run : List Operation) →
    count_in windows (posts_at windows descriptor vector) run bytes ≡ 0 → 256 ≤ count_in windows (takes_at windows descriptor) run bytes →
    0 < count_in windows (hands_out windows descriptor vector) run bytes

-- nothing is lost: of a descriptor's vector, standing at the start and posts that found it clear make the times that it was handed
-- out and standing at the end
abbrev pub Conserved : Type 0
Conserved = (windows : List ℕ) (descriptor vector : ℕ) (bytes : List ℕ) → ((n : ℕ) → get_or bytes n 0 < 256) → descriptor % 64 ≡ 0 → vector < 256 →
    (run : List Operation) →
    one-if (stands windows descriptor bytes vector) + count_in windows (posts_clear windows descriptor vector) run bytes
    ≡ count_in windows (hands_out windows descriptor vector) run bytes + one-if (stands windows descriptor (left windows run bytes) vector)

-- and nothing invented: what is handed out stood at the start or was posted
abbrev pub NoneInvented : Type 0
NoneInvented = (windows : List ℕ) (descriptor vector : ℕ) (bytes : List ℕ) → ((n : ℕ) → get_or bytes n 0 < 256) → descriptor % 64 ≡ 0 → vector < 256 →
    (run : List Operation) → 0 < count_in windows (hands_out windows descriptor vector) run bytes →
    (stands windows descriptor bytes vector ≡ true) ⊎ (0 < count_in windows (posts_clear windows descriptor vector) run bytes)

-- where one request posts, the descriptor shares no byte with the interrupt entry of the other
abbrev pub Apart : Registers → (one other : InterruptRequest) → (windows bytes : List ℕ) → Type 0
Apart registers one other windows bytes = (descriptor vector : ℕ) (n : Notification) →
    interrupt_answer registers one windows bytes ≡ posted descriptor vector n →
    (descriptor + 64 ≤ indexed_entry registers other) ⊎ (indexed_entry registers other + 16 ≤ descriptor)

-- two requests, posts or not, in either order: the same bytes, and as many notifications
abbrev pub EitherOrder : Type 0
EitherOrder = (registers : Registers) (a b : InterruptRequest) (windows bytes : List ℕ) → ((n : ℕ) → get_or bytes n 0 < 256) →
    Apart registers a b windows bytes → Apart registers b a windows bytes →
    (left windows (request registers a ∷ request registers b ∷ []) bytes ≡ left windows (request registers b ∷ request registers a ∷ []) bytes)
    × (count_in windows (notifications windows) (request registers a ∷ request registers b ∷ []) bytes
    ≡ count_in windows (notifications windows) (request registers b ∷ request registers a ∷ []) bytes)
