-- Guest memory with holes (document 02, ask 9): none to four windows on the one lent run of bytes. They are lent as numbers, three a
-- window: the host address of its first byte, the place of that byte in the run, and its length.
use Rattle.std.specs.Prelude.{ℕ, zero, suc, ◌+◌, ◌-◌, ◌%◌, ◌^◌, min, Bool, false, not, ◌&&◌, ◌||◌, List, [], ◌∷◌, length, get_or, take, drop, ◌==◌, nat_le, nat_lt}
use Rattle.image.specs.Bytes.{little_endian}
use Rattle.std.specs.Prelude.{if◌then◌else◌}
use Rattle.image.specs.Memory.{Fetched, missing, found, Memory}

-- the host address of its first byte, and its part of the run
pub record Window : Type 0 where
  pub start : ℕ
  pub place : ℕ
  pub size : ℕ

unfoldable pub windows_of : List ℕ → List Window
windows_of [] = []
windows_of (s ∷ []) = []
windows_of (s ∷ p ∷ []) = []
windows_of (s ∷ p ∷ n ∷ rest) = record { start = s; place = p; size = n } ∷ windows_of rest

-- the window whose three numbers stand from an index on
abbrev pub window_at : (numbers : List ℕ) → (i : ℕ) → Window
window_at numbers i = record { start = get_or numbers i 0; place = get_or numbers (i + 1) 0; size = get_or numbers (i + 2) 0 }

-- the host address behind a window's last byte
abbrev pub end_of : Window → ℕ
end_of w = w.start + w.size

-- the window holds all of so many bytes from a host address
abbrev pub holds_all : Window → (size at : ℕ) → Bool
holds_all w size at = nat_le w.start at && nat_le (at + size) (end_of w)

-- no place, or one in the run and how many bytes its window has from there on
pub data Spot : Type 0 where
  nowhere : Spot
  here : (place left : ℕ) → Spot

abbrev pub on_spot {ℓ} : {A : Type ℓ} → Spot → A → (ℕ → ℕ → A) → A
on_spot nowhere none some = none
on_spot (here place left) none some = some place left

-- where in the run so many bytes from a host address stand: where a single window holds them all
unfoldable pub spot_in : List Window → (size at : ℕ) → Spot
spot_in [] size at = nowhere
spot_in (w ∷ ws) size at =
    if holds_all w size at then here (w.place + (at - w.start)) (end_of w - at) else spot_in ws size at

-- the number in so many bytes from a host address: it is fetched exactly if they lie whole in a single window
unfoldable pub entry_in : (numbers run : List ℕ) → (size at : ℕ) → Fetched
entry_in numbers run size at =
    on_spot (spot_in (windows_of numbers) size at) missing (λ place left. found (little_endian (take size (drop place run))))

-- the memory that the windows show
unfoldable pub of_windows : (numbers run : List ℕ) → Memory
of_windows numbers run at = entry_in numbers run 8 at

-- the byte at a host address; 0 where no window shows one
unfoldable pub byte_at : (numbers run : List ℕ) → (at : ℕ) → ℕ
byte_at numbers run at = on_spot (spot_in (windows_of numbers) 1 at) 0 (λ place left. get_or run place 0)

-- the page of a table that begins in a window: as much of it as the window holds
unfoldable pub page_from : (w : Window) (run : List ℕ) → (table : ℕ) → List ℕ
page_from w run table = take (min 4096 (end_of w - table)) (drop (w.place + (table - w.start)) run)

-- Refusal 1's part on windows. One alone: a start that is no multiple of 4096, an empty part, an end past the run or past 2^64.
abbrev pub bad_window : Window → (run : ℕ) → Bool
bad_window w run =
    not (w.start % 4096 == 0)
    || w.size == 0
    || nat_lt run (w.place + w.size)
    || nat_lt (2 ^ 64) (end_of w)

-- so many numbers from one, and so many from another, have one in common (where neither are none)
abbrev pub overlap : (a m b n : ℕ) → Bool
overlap a m b n = nat_lt a (b + n) && nat_lt b (a + m)

-- Two of them, in this order: not sorted by start, an overlap in host addresses, an overlap in the run.
abbrev pub bad_pair : Window → Window → Bool
bad_pair w v =
    nat_lt v.start w.start
    || overlap w.start w.size v.start v.size
    || overlap w.place w.size v.place v.size

unfoldable pub bad_with_any : Window → List Window → Bool
bad_with_any w [] = false
bad_with_any w (v ∷ vs) = bad_pair w v || bad_with_any w vs

unfoldable pub bad_list : List Window → (run : ℕ) → Bool
bad_list [] run = false
bad_list (w ∷ ws) run = bad_window w run || bad_with_any w ws || bad_list ws run

-- more than four windows, or a count of numbers that isn't three a window
abbrev pub bad_numbers : (numbers : ℕ) → Bool
bad_numbers numbers = nat_lt 12 numbers || not (numbers % 3 == 0)

-- the windows on a run of so many bytes are refused
unfoldable pub bad_windows : (numbers : List ℕ) (run : ℕ) → Bool
bad_windows numbers run = bad_numbers (length numbers) || bad_list (windows_of numbers) run

-- an answer over lent memory: one for windows that are refused, and else what is told over the memory that they show
abbrev pub over_windows : {A : Type 0} → (bad : A) → (Memory → A) → (windows bytes : List ℕ) → A
over_windows bad over windows bytes = if bad_windows windows (length bytes) then bad else over (of_windows windows bytes)

-- the flat image: one window from 0 that shows the whole run, none where the run is empty
unfoldable pub flat : (run : ℕ) → List ℕ
flat zero = []
flat (suc n) = 0 ∷ 0 ∷ suc n ∷ []
