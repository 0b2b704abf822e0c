-- Ask 13's claims at concrete images: their premises can be met, and their bounds can't be lowered. Proved in proofs/Takes.antt.
use Rattle.std.specs.Prelude.{ℕ, ◌+◌, ◌-◌, ◌*◌, ◌^◌, ◌<◌, true, List, [], ◌∷◌, ◌++◌, ◌≡◌, get_or, replicate}
use Rattle.image.specs.Bits.{bits}
use Rattle.image.specs.Bytes.{bytes_of}
use Rattle.image.specs.Memory.{found, entry}
use Rattle.image.specs.Windows.{of_windows, flat}
use Rattle.registers.specs.declared.Registers.{Registers}
use Rattle.interrupts.specs.Claims.{indexed_entry}
use Rattle.interrupts.specs.Descriptor.{notification}
use Rattle.interrupts.specs.Interrupts.{posted, interrupt_answer}
use Rattle.interrupts.specs.declared.InterruptRequest.{InterruptRequest}
use Rattle.takes.specs.Claims.{Apart}
use Rattle.takes.specs.Runs.{Operation, request, take_from, left, count_in, stands, standing_from, takes_at, hands_out, posts_at, posts_clear, notifications}
use Rattle.takes.specs.Take as rules
use Rattle.takes.specs.Take.{take_answer}
use Rattle.cases.specs.Bench.{interrupt_request, registers_with}

-- an interrupt table of two entries at an address
abbrev pub registers_at : (table : ℕ) → Registers
registers_at table = registers_with table 0 true

-- from address 0: the first entry posts 31h and the second F0h, to the descriptor at 64
abbrev pub registers : Registers
registers = registers_at 0

-- the entries, then the descriptor's request bits and control word as given
unfoldable pub with_requests : (requests control : ℕ) → List ℕ
with_requests requests control =
    bytes_of 8 0x4000318001 ++ (bytes_of 8 0x40310 ++ (bytes_of 8 0x4000F08001 ++ (replicate 40 0
    ++ (bytes_of 32 requests ++ (bytes_of 8 control ++ replicate 24 0)))))

-- all 256 request bits and ON set; 31h alone set; none set
abbrev pub all_requests : List ℕ
all_requests = with_requests (2 ^ 256 - 1) 1

abbrev pub one_request : List ℕ
one_request = with_requests (2 ^ 0x31) 1

abbrev pub no_requests : List ℕ
no_requests = with_requests 0 0

-- one window from 0, on all of the 128 bytes
abbrev pub window : List ℕ
window = flat 128

-- posts through the first entry and through the second, from source 0310h, and a take at the descriptor
abbrev pub posts31 : InterruptRequest
posts31 = interrupt_request 0x0310 0xFEE00010 0

abbrev pub posts_f0 : InterruptRequest
posts_f0 = interrupt_request 0x0310 0xFEE00030 0

abbrev pub takes : ℕ → List Operation
takes n = replicate n (take_from registers 64)

pub record TakesMet : Type 0 where
  -- one take: the highest bit, none, and two refusals
  pub hands-255 : take_answer registers 64 window all_requests ≡ rules.handed 255
  pub hands_none : take_answer registers 64 window no_requests ≡ rules.none
  pub odd : take_answer registers 32 window all_requests ≡ rules.refused 5
  pub outside : take_answer registers 128 window all_requests ≡ rules.refused 5
  -- of 256 bits the lowest is handed out by the 256th take and by none before it
  pub full-bytes : (n : ℕ) → get_or all_requests n 0 < 256
  pub lowest-stands : stands window 64 all_requests 0 ≡ true
  pub nothing-posted : count_in window (posts_at window 64 0) (takes 256) all_requests ≡ 0
  pub takes-made : count_in window (takes_at window 64) (takes 256) all_requests ≡ 256
  pub not-by-255 : count_in window (hands_out window 64 0) (takes 255) all_requests ≡ 0
  pub by-256 : count_in window (hands_out window 64 0) (takes 256) all_requests ≡ 1
  -- 31h stands alone, F0h is posted meanwhile: handed out by the second take and not by the first
  pub one-stands : standing_from window 64 0x31 one_request ≡ 1
  pub one-posted : count_in window (posts_at window 64 0x31) (request registers posts_f0 ∷ takes 2) one_request ≡ 1
  pub not-by-first : count_in window (hands_out window 64 0x31) (request registers posts_f0 ∷ takes 1) one_request ≡ 0
  pub by-second : count_in window (hands_out window 64 0x31) (request registers posts_f0 ∷ takes 2) one_request ≡ 1
  -- 31h stands, is posted, taken, posted twice: one post finds it clear, it is handed out once and stands at the end
  pub found-clear : count_in window (posts_clear window 64 0x31) (request registers posts31 ∷ take_from registers 64 ∷ request registers posts31 ∷ request registers posts31 ∷ []) one_request ≡ 1
  pub handed-once : count_in window (hands_out window 64 0x31) (request registers posts31 ∷ take_from registers 64 ∷ request registers posts31 ∷ request registers posts31 ∷ []) one_request ≡ 1
  pub still-stands : stands window 64 (left window (request registers posts31 ∷ take_from registers 64 ∷ request registers posts31 ∷ request registers posts31 ∷ []) one_request) 0x31 ≡ true
  -- two posts to one descriptor: neither's entry shares a byte with it, and there is one notification
  pub apart : Apart registers posts31 posts_f0 window no_requests
  pub apart-back : Apart registers posts_f0 posts31 window no_requests
  pub one-notification : count_in window (notifications window) (request registers posts31 ∷ request registers posts_f0 ∷ []) no_requests ≡ 1
  -- the first entry is for source 0310h alone: SVT 1, SQ 0
  pub its-post : interrupt_answer registers posts31 window no_requests ≡ posted 64 0x31 (notification 0 0)
  pub its-entry : entry 2 (of_windows window no_requests) (indexed_entry registers posts31) ≡ found (0x40310 * 2 ^ 64 + 0x4000318001)
  pub its-svt : bits (0x40310 * 2 ^ 64 + 0x4000318001) 83 82 ≡ 1
  pub its-sq : bits (0x40310 * 2 ^ 64 + 0x4000318001) 81 80 ≡ 0
