-- A walked page entry is a word: its address is a multiple of 8.
use Prim.Native.Nat.{ℕ, ◌%◌}
use mathlib.Core.Path.{◌≡◌}
use mathlib.Core.List.Memᴰ
use mathlib.Core.List.{List, [], ◌∷◌, Memᴰ}
use mathlib.Core.Logic.{⊎_elim}
use Rattle.image.specs.EntryKind.{is_page}
use Rattle.image.specs.Memory.{Memory}
use Rattle.image.proofs.Forks.{every-entry}
use Rattle.registers.specs.declared.Registers.{Registers}
use Rattle.dma.specs.Isolation.{walked_by_any}
use Rattle.dma.specs.Requests.{memory_rules, walked}
use Rattle.dma.specs.declared.MemoryRequest.{MemoryRequest}
use Rattle.dma.proofs.Forks.{Fork, Ends, memory-forks}

aligned-walked : (registers : Registers) (request : MemoryRequest) (m : Memory) (a : ℕ) → Memᴰ a (walked registers request m) → a % 8 ≡ 0
aligned-walked registers request m a =
    every-entry Fork Ends is_page (λ at. at % 8 ≡ 0) (λ kind at o fork page. fork.1) 9 (memory_rules registers request) m a
    (memory-forks registers request)

pub aligned-any : (registers : Registers) (walkers : List MemoryRequest) (m : Memory) (a : ℕ) → Memᴰ a (walked_by_any registers walkers m) → a % 8 ≡ 0
unfolding walked_by_any
aligned-any registers [] m a is = absurd (Memᴰ.not-nil is)
aligned-any registers (walker ∷ walkers) m a is =
    ⊎_elim (aligned-walked registers walker m a) (aligned-any registers walkers m a)
    (Memᴰ.append_cases (walked registers walker m) is)
