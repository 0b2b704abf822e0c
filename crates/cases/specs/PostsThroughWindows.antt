-- Document 02, Ask 9, at a small memory with a hole: a post and a take through two windows that lie the other way round in the run, and
-- windows that are refused. Proved in proofs/PostsThroughWindows.antt.
use Rattle.std.specs.Prelude.{ℕ, false, List, [], ◌∷◌, ◌++◌, ◌≡◌, length, replicate, set}
use Rattle.image.specs.Bytes.{bytes_of}
use Rattle.image.specs.Place.{entry_at}
use Rattle.image.specs.Windows.{bad_windows}
use Rattle.registers.specs.declared.Registers.{Registers}
use Rattle.interrupts.specs.Descriptor.{notification}
use Rattle.interrupts.specs.Interrupts as interrupts
use Rattle.takes.specs.Runs.{request, take_from, left}
use Rattle.takes.specs.Take as takes
use Rattle.cases.specs.Takes.{registers_at, posts31}

-- the interrupt table at 2000h
abbrev pub registers : Registers
registers = registers_at 0x2000

-- the descriptor, all zero, and behind it the entry that posts 31h to host address 5000h
unfoldable pub post_run : List ℕ
post_run = replicate 64 0 ++ (bytes_of 8 0x500000318001 ++ (bytes_of 8 0x40310 ++ replicate 48 0))

-- host address 2000h shows the entry, 5000h the descriptor
abbrev pub two : List ℕ
two = 0x2000 ∷ 64 ∷ 64 ∷ 0x5000 ∷ 0 ∷ 64 ∷ []

-- the second window ends inside the descriptor
abbrev pub cut_short : List ℕ
cut_short = 0x2000 ∷ 64 ∷ 64 ∷ 0x5000 ∷ 0 ∷ 32 ∷ []

-- two that share a byte of the run, and two that aren't sorted by their start
abbrev pub shared_byte : List ℕ
shared_byte = 0x2000 ∷ 63 ∷ 64 ∷ 0x5000 ∷ 0 ∷ 64 ∷ []

abbrev pub unsorted : List ℕ
unsorted = 0x5000 ∷ 0 ∷ 64 ∷ 0x2000 ∷ 64 ∷ 64 ∷ []

-- the run after the post: request bit 31h and ON, by place
abbrev pub posted_run : List ℕ
posted_run = set (set post_run 6 2) 32 1

pub record PostsThroughWindows : Type 0 where
  pub fine : bad_windows two (length post_run) ≡ false
  pub answered : interrupts.interrupt_answer registers posts31 two post_run ≡ interrupts.posted 0x5000 0x31 (notification 0 0)
  pub written : left two (request registers posts31 ∷ []) post_run ≡ posted_run
  pub handed : takes.take_answer registers 0x5000 two posted_run ≡ takes.handed 0x31
  pub taken : left two (request registers posts31 ∷ take_from registers 0x5000 ∷ []) post_run ≡ post_run
  -- a descriptor that isn't whole in a single window is the entry concerned in an interrupt's fault, and a take's refusal 5
  pub cut-blocked : interrupts.interrupt_answer_place registers posts31 cut_short post_run ≡ entry_at 0x5000
  pub cut-taken : takes.take_answer registers 0x5000 cut_short posted_run ≡ takes.refused 5
  pub cut_left : left cut_short (request registers posts31 ∷ take_from registers 0x5000 ∷ []) post_run ≡ post_run
  -- windows that are refused: refusal 1, before an address that isn't a multiple of 64
  pub sharing-refused : interrupts.interrupt_answer registers posts31 shared_byte post_run ≡ interrupts.refused 1
  pub unsorted-refused : takes.take_answer registers 0x5001 unsorted post_run ≡ takes.refused 1
