-- Lent memory: windows on a run of bytes that aren't refused (document 02, ask 9). What two of them have in common is told by host address;
-- how the windows are cut, and where in its run each has its bytes, is free.
use Rattle.std.specs.Prelude.{ℕ, false, ◌≡◌, length, get_or, take, drop}
use mathlib.Core.List.{List, [], ◌∷◌, Memᴰ}
use Rattle.image.specs.Memory.{Memory, Fetched, missing, found}
use Rattle.image.specs.Windows.{windows_of, Spot, here, on_spot, spot_in, of_windows, bad_windows}
use Rattle.dma.specs.Isolation.{SwitchedEntry, BothFetched}

pub record Lent : Type 0 where
  pub windows : List ℕ
  pub bytes : List ℕ
  pub good : bad_windows windows (length bytes) ≡ false

-- the memory that the rules read
abbrev pub memory_of : Lent → Memory
memory_of l = of_windows l.windows l.bytes

-- where in its run so many bytes from a host address stand: where a single window holds them all
abbrev pub spot_of : Lent → (size at : ℕ) → Spot
spot_of l = spot_in (windows_of l.windows)

-- the byte at a host address, where a window shows one
abbrev pub byte_of : Lent → (at : ℕ) → Fetched
byte_of l at = on_spot (spot_of l 1 at) missing (λ place left. found (get_or l.bytes place 0))

-- Two are alike in a word that lies whole in a window of each, with the same 8 bytes.
pub record SameWordAt (l l' : Lent) (at : ℕ) : Type 0 where
  pub place : ℕ
  pub left : ℕ
  pub whole : spot_of l 8 at ≡ here place left
  pub place' : ℕ
  pub left' : ℕ
  pub whole' : spot_of l' 8 at ≡ here place' left'
  pub same : take 8 (drop place l.bytes) ≡ take 8 (drop place' l'.bytes)

unfoldable pub SameWordsAt : (l l' : Lent) → List ℕ → Type 0
SameWordsAt l l' [] = Unit {0}
SameWordsAt l l' (at ∷ rest) = SameWordAt l l' at × SameWordsAt l l' rest

-- The second has some of these entries switched, in any of their bits 0 (read) and 1 (write), and every other byte, shown or not, is the
-- same: an entry's bits 7:0 are the byte at its address.
pub record SwitchedAt (turned : ℕ → ℕ → Type 0) (entries : List ℕ) (l l' : Lent) : Type 0 where
  pub elsewhere : (at : ℕ) → (Memᴰ at entries → ⊥) → byte_of l' at ≡ byte_of l at
  pub switched : (at : ℕ) → Memᴰ at entries → BothFetched (SwitchedEntry turned) (byte_of l at) (byte_of l' at)

-- The second shows every byte that the first shows, and maybe more: in a longer window, or in a further one.
abbrev pub ShowsAll : Lent → Lent → Type 0
ShowsAll l l' = (at b : ℕ) → byte_of l at ≡ found b → byte_of l' at ≡ found b
