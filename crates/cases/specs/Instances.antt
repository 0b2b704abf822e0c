-- Demand 3 at the bench image, and at memories with a hole: the premises of each part of `Isolation` (crate unit) can be met. The parts of the
-- bench image are lent as one window from 0. Proved in proofs/Instances.antt, where `Isolation` is given them.
use Rattle.std.specs.Prelude.{ℕ, ◌≤◌, true, false, List, [], ◌∷◌, ◌++◌, ◌≡◌, length, take, drop, set, replicate}
use Rattle.image.specs.Bytes.{bytes_of}
use Rattle.image.specs.Rules.{named}
use Rattle.image.specs.Windows.{flat, bad_windows}
use Rattle.registers.specs.declared.Registers.{Registers}
use Rattle.dma.specs.Isolation.{access_fault, walked_by_any, Apart}
use Rattle.dma.specs.Requests.{granted, memory_rules, memory_answer}
use Rattle.dma.specs.declared.MemoryRequest.{MemoryRequest}
use Rattle.translation.specs.Claims as translation
use Rattle.translation.specs.Requests.{translated, request_rules, translation_answer}
use Rattle.translation.specs.declared.TranslationRequest.{TranslationRequest}
use Rattle.interrupts.specs.Claims.{named_words, AccessFault}
use Rattle.interrupts.specs.Descriptor.{notification}
use Rattle.interrupts.specs.Interrupts.{posted, interrupt_answer}
use Rattle.interrupts.specs.declared.InterruptRequest.{InterruptRequest}
use Rattle.unit.specs.Isolation.{memory_over, translation_over, interrupt_over}
use Rattle.unit.specs.Lent.{Lent, memory_of, SameWordsAt, SwitchedAt, ShowsAll}
use Rattle.cases.specs.Bench.{bench, bench_registers, memory_request, interrupt_request}
use Rattle.cases.specs.PostsThroughWindows as small
use Rattle.cases.specs.Takes.{posts31}

-- two lent memories, with these windows and bytes, that are so related; neither's windows are refused
pub record Related (windows bytes windows' bytes' : List ℕ) (R : Lent → Lent → Type 0) : Type 0 where
  pub good : bad_windows windows (length bytes) ≡ false
  pub good' : bad_windows windows' (length bytes') ≡ false
  pub is : R (record { windows = windows; bytes = bytes; good = good }) (record { windows = windows'; bytes = bytes'; good = good' })

-- each lent as one window from 0
abbrev pub FlatRelated : (image image' : List ℕ) (R : Lent → Lent → Type 0) → Type 0
FlatRelated image image' R = Related (flat (length image)) image (flat (length image')) image' R

-- The premises of each part of `Isolation`.
pub record MemoryPremises (registers : Registers) (request : MemoryRequest) (l l' : Lent) : Type 0 where
  pub no-access-fault : access_fault (memory_over registers request l) ≡ false
  pub alike : SameWordsAt l l' (named (memory_rules registers request) (memory_of l))

pub record TranslationPremises (registers : Registers) (request : TranslationRequest) (l l' : Lent) : Type 0 where
  pub no-access-fault : translation.access_fault (translation_over registers request l) ≡ false
  pub alike : SameWordsAt l l' (named (request_rules registers request) (memory_of l))

pub record InterruptPremises (registers : Registers) (request : InterruptRequest) (l l' : Lent) : Type 0 where
  pub no-access-fault : AccessFault (interrupt_over registers request l) → ⊥
  pub alike : SameWordsAt l l' (named_words registers request (memory_of l))

pub record OnPremises (registers : Registers) (walkers : List MemoryRequest) (request : MemoryRequest) (address : ℕ) (l l' : Lent) : Type 0 where
  pub apart : Apart registers walkers request (memory_of l)
  pub switched : SwitchedAt (λ before after. before ≤ after) (walked_by_any registers walkers (memory_of l)) l l'
  pub was_granted : memory_over registers request l ≡ granted address

pub record OffPremises (registers : Registers) (walkers : List MemoryRequest) (request : MemoryRequest) (l l' : Lent) : Type 0 where
  pub apart : Apart registers walkers request (memory_of l)
  pub switched : SwitchedAt (λ before after. after ≤ before) (walked_by_any registers walkers (memory_of l)) l l'
  pub not-granted : (address : ℕ) → memory_over registers request l ≡ granted address → ⊥

pub record MorePremises (registers : Registers) (request : MemoryRequest) (address : ℕ) (l l' : Lent) : Type 0 where
  pub shows : ShowsAll l l'
  pub was_granted : memory_over registers request l ≡ granted address

-- cases 1 and 2: a read and a write of 40201ABC
abbrev pub reads : MemoryRequest
reads = memory_request 0x0310 0x40201ABC false

abbrev pub writes : MemoryRequest
writes = memory_request 0x0310 0x40201ABC true

-- case 5: its table lies outside the image, so it ends in an access fault behind the entry at 4018
abbrev pub reads_beyond : MemoryRequest
reads_beyond = memory_request 0x0310 0x40600000 false

-- the bench image with write clear at 4018
unfoldable pub bench_read_only : List ℕ
bench_read_only = set bench 0x4018 1

-- the bench image with a context of type 1, and a translation request of the same address
unfoldable pub bench_type1 : List ℕ
bench_type1 = set bench 0x2100 5

abbrev pub translates : TranslationRequest
translates = record { source = record { id = 0x0310 }; address = 0x40201ABC }

-- cases 10 and 12: an interrupt that is remapped, and one that is posted
abbrev pub remapped_request : InterruptRequest
remapped_request = interrupt_request 0x0310 0xFEE00050 0

abbrev pub posted_request : InterruptRequest
posted_request = interrupt_request 0x0310 0xFEE00090 0

-- The bench image with a hole: 1000h to 400Fh and, first in the run, 5000h to 5FFFh; and cut otherwise, with 16 bytes from 5000h, last.
unfoldable pub holed : List ℕ
holed = take 0x1000 (drop 0x5000 bench) ++ take 0x3010 (drop 0x1000 bench)

abbrev pub holed_windows : List ℕ
holed_windows = 0x1000 ∷ 0x1000 ∷ 0x3010 ∷ 0x5000 ∷ 0 ∷ 0x1000 ∷ []

unfoldable pub cut_bytes : List ℕ
cut_bytes = take 0x3010 (drop 0x1000 bench) ++ take 0x10 (drop 0x5000 bench)

abbrev pub cut_windows : List ℕ
cut_windows = 0x1000 ∷ 0 ∷ 0x3010 ∷ 0x5000 ∷ 0x3010 ∷ 0x10 ∷ []

-- the entry and the descriptor of PostsThroughWindows.antt, in the order of their host addresses and without what stands behind the entry
unfoldable pub reordered : List ℕ
reordered = bytes_of 8 0x500000318001 ++ (bytes_of 8 0x40310 ++ replicate 64 0)

abbrev pub reordered_windows : List ℕ
reordered_windows = 0x2000 ∷ 0 ∷ 16 ∷ 0x5000 ∷ 16 ∷ 64 ∷ []

pub record PremisesMet : Type 0 where
  -- memory requests: the second image ends behind the last word that the read names; over two windows each, the second cut otherwise
  pub memory : FlatRelated bench (take 0x5010 bench) (MemoryPremises bench_registers reads)
  pub memory-windows : Related holed_windows holed cut_windows cut_bytes (MemoryPremises bench_registers reads)
  pub memory-windows-answer : memory_answer bench_registers reads holed_windows holed ≡ granted 0x12345ABC
  -- translation requests, likewise
  pub translations : FlatRelated bench_type1 (take 0x5010 bench_type1) (TranslationPremises bench_registers translates)
  pub translations-answer : translation_answer bench_registers translates (flat (length bench_type1)) bench_type1
      ≡ translated 0x12345000 0x1000 (record { read = true; write = false })
  -- interrupts: the second image ends behind the entry; one that goes on behind the descriptor, with a notification among the answer's
  -- parts; and a post over two windows each, which lie the other way round in the second run
  pub interrupts : FlatRelated bench (take 0x6030 bench) (InterruptPremises bench_registers remapped_request)
  pub post : FlatRelated (take 0x6440 bench) bench (InterruptPremises bench_registers posted_request)
  pub post-answer : interrupt_answer bench_registers posted_request (flat (length (take 0x6440 bench))) (take 0x6440 bench)
      ≡ posted 0x6400 0x31 (notification 0xF2 7)
  pub post-windows : Related small.two small.post_run reordered_windows reordered (InterruptPremises small.registers posts31)
  pub post-windows-answer : interrupt_answer small.registers posts31 small.two small.post_run ≡ posted 0x5000 0x31 (notification 0 0)
  -- write switched on in the read's leaf and in an entry of the walker that ended in an access fault
  pub rights-on : FlatRelated bench_read_only (set (set bench_read_only 0x5008 3) 0x4018 3) (OnPremises bench_registers (reads ∷ reads_beyond ∷ []) reads 0x12345ABC)
  pub walker-faulted : access_fault (memory_answer bench_registers reads_beyond (flat (length bench_read_only)) bench_read_only) ≡ true
  -- the rights of these two switched off; the write was blocked
  pub rights-off : FlatRelated bench (set (set bench 0x5008 0) 0x4018 0) (OffPremises bench_registers (writes ∷ reads_beyond ∷ []) writes)
  -- the image longer
  pub more-memory : FlatRelated (take 0x5010 bench) bench (MorePremises bench_registers reads 0x12345ABC)
