-- Document 02, ask 8: what a build leaves in the lent memory. Proved in proofs/Inside.antt.
use Rattle.std.specs.Prelude.{ℕ, ◌+◌, ◌≤◌, ◌<◌, List, ◌≡◌, length, get_or}
use Rattle.image.specs.Windows.{byte_at}
use Rattle.registers.specs.declared.Registers.{Registers}
use Rattle.interrupts.specs.Claims.{Shows}
use Rattle.builder.specs.Build.{LentBuffers, all_taken, built}

-- a host address in the region
abbrev pub InRegion : (start size at : ℕ) → Type 0
InRegion start size at = (start ≤ at) × (at < start + size)

-- It writes in the region alone: the run keeps its length, a byte at a host address outside the region is as it came, and so is each byte
-- of the run that no window shows.
abbrev pub BuildsInside : Type 0
BuildsInside =
    (registers : Registers) (source start size : ℕ) (windows items : List ℕ) (l : LentBuffers)
    → let after = (built registers source start size windows items l).1.memory in
    (length after ≡ length l.memory)
    × ((at : ℕ) → (InRegion start size at → ⊥) → byte_at windows after at ≡ byte_at windows l.memory at)
    × ((place : ℕ) → ((at : ℕ) → Shows windows at place → ⊥) → get_or after place 0 ≡ get_or l.memory place 0)

-- a refusal, at an item or before any, leaves every byte of the memory
abbrev pub RefusalLeaves : Type 0
RefusalLeaves =
    (registers : Registers) (source start size : ℕ) (windows items : List ℕ) (l : LentBuffers)
    → ((built registers source start size windows items l).0 ≡ all_taken → ⊥)
    → (built registers source start size windows items l).1.memory ≡ l.memory
