-- An entry as the words that the code holds, and what the code's fetches and searches say they found.
use Rattle.std.specs.Prelude.{◌≡◌, ℕ, true, false, List, [], ◌∷◌, length, Option, Some, None, Result, Ok, Err}
use Rattle.image.specs.Bytes.{spell}
use Rattle.image.specs.Memory.{Memory, Fetched, missing, found}
use Rattle.image.specs.Place.{Place, no_entry, entry_at}
use Rattle.image.specs.Spans.{window_by, Holds, Stands}
use Rattle.image.specs.Windows.{Window, nowhere, spot_in, of_windows, bad_windows}
use Rattle.image.specs.declared.Entry16.{Entry16}
use Rattle.image.specs.declared.Entry64.{Entry64}
use Rattle.image.specs.declared.Missing.{Missing}
use Rattle.image.specs.declared.memory.Memory.{Memory as MemoryCode}
use Rattle.image.specs.declared.Span.{Span}

abbrev pub words16 : Entry16 → List ℕ
words16 e = e.low ∷ e.high ∷ []

abbrev pub number16 : Entry16 → ℕ
number16 e = spell (words16 e)

abbrev pub words64 : Entry64 → List ℕ
words64 e = e.w0 ∷ e.w1 ∷ e.w2 ∷ e.w3 ∷ e.w4 ∷ e.w5 ∷ e.w6 ∷ e.w7 ∷ []

abbrev pub number64 : Entry64 → ℕ
number64 e = spell (words64 e)

-- what a fetch found: the number of its entry, or nothing
abbrev pub fetched : {A : Type 0} → (A → ℕ) → Result A Missing → Fetched
fetched number (Ok e) = found (number e)
fetched number (Err m) = missing

abbrev pub fetched8 : Result ℕ Missing → Fetched
fetched8 = fetched (λ e. e)

abbrev pub fetched16 : Result Entry16 Missing → Fetched
fetched16 = fetched number16

abbrev pub fetched64 : Result Entry64 Missing → Fetched
fetched64 = fetched number64

-- the host address that a fetch names where it found nothing; where it found an entry, the one handed in
abbrev pub missed : {A : Type 0} → Result A Missing → (at : ℕ) → ℕ
missed (Ok e) at = at
missed (Err m) at = m.at

abbrev pub missed8 : Result ℕ Missing → (at : ℕ) → ℕ
missed8 = missed

abbrev pub missed16 : Result Entry16 Missing → (at : ℕ) → ℕ
missed16 = missed

abbrev pub missed64 : Result Entry64 Missing → (at : ℕ) → ℕ
missed64 = missed

-- the entry concerned, as the code names it
abbrev pub place_of : Option ℕ → Place
place_of None = no_entry
place_of (Some at) = entry_at at

-- the memory that the code's memory shows
abbrev pub memory_of : MemoryCode → Memory
memory_of m = of_windows m.windows.now m.image.now

-- memory opened, or windows that are refused: for the code's contracts
abbrev pub OpenedBy : Option MemoryCode → (numbers run : List ℕ) → Type 0
OpenedBy (Some m) numbers run = (bad_windows numbers (length run) ≡ false) × (m.windows.now ≡ numbers) × (m.image.now ≡ run)
OpenedBy None numbers run = bad_windows numbers (length run) ≡ true

-- the window that holds the byte at a host address, and the place of so many bytes from there on: for the code's contracts
abbrev pub HeldBy : Option Span → List Window → (run at : ℕ) → Type 0
HeldBy (Some s) ws run at = Holds (window_by s) ws run at
HeldBy None ws run at = spot_in ws 1 at ≡ nowhere

abbrev pub PlacedBy : Option ℕ → List Window → (run size at : ℕ) → Type 0
PlacedBy (Some place) ws run size at = Stands place ws run size at
PlacedBy None ws run size at = spot_in ws size at ≡ nowhere
