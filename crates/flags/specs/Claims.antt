-- What the setting of flags does to every bit, by host address, and to the run. Proved in proofs/Exact.antt.
use Rattle.std.specs.Prelude.{◌≡◌, ℕ, ◌/◌, Bool, true, false, ◌&&◌, ◌||◌, List, [], ◌∷◌, length, ◌==◌, slice_index}
use Rattle.image.specs.Windows.{windows_of, on_spot, spot_in, bad_windows}
use Rattle.interrupts.specs.Claims.{bit_at, Shows}
use Rattle.flags.specs.Flags.{set_flags}

unfoldable pub among : (n : ℕ) (flags : List ℕ) → Bool
among n [] = false
among n (k ∷ rest) = n == k || among n rest

-- a window shows the byte at a host address
abbrev pub is_shown : (windows : List ℕ) (at : ℕ) → Bool
is_shown windows at = on_spot (spot_in (windows_of windows) 1 at) false (λ place left. true)

-- every bit is as it came, or set as one of the flags
abbrev pub SetsFlags : Type 0
SetsFlags = (windows flags bytes : List ℕ) → bad_windows windows (length bytes) ≡ false → (n : ℕ) →
    bit_at windows (set_flags windows flags bytes) n ≡ (bit_at windows bytes n || is_shown windows (n / 8) && among n flags)

-- the run keeps its length, and a byte of it that no window shows is as it came
abbrev pub StaysInside : Type 0
StaysInside = (windows flags bytes : List ℕ) →
    (length (set_flags windows flags bytes) ≡ length bytes)
    × ((place : ℕ) → ((at : ℕ) → Shows windows at place → ⊥) → slice_index (set_flags windows flags bytes) place ≡ slice_index bytes place)
