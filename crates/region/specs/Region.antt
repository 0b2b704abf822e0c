-- Document 02, ask 8: the region is whole pages of the image, below 2^HAW, none shared with the unit's other tables.
use Rattle.std.specs.Prelude.{ℕ, zero, suc, ◌+◌, ◌/◌, ◌%◌, ◌^◌, Bool, true, not, ◌&&◌, ◌||◌, List, eqb, ltb}
use Rattle.image.specs.Windows.{spot_in, windows_of, of_windows}
use Rattle.registers.specs.declared.Registers.{Registers}
use Rattle.region.specs.Copy.{is_whole}
use Rattle.region.specs.Shared.{shares_tables}

-- so many pages from a host address on stand whole in windows
unfoldable pub pages_shown : (windows : List ℕ) → (n at : ℕ) → Bool
pages_shown windows zero at = true
pages_shown windows (suc n) at = is_whole (spot_in (windows_of windows) 4096 at) && pages_shown windows n (at + 4096)

abbrev pub not_pages : (start size : ℕ) → Bool
not_pages start size = not (eqb (start % 4096) 0) || not (eqb (size % 4096) 0)

unfoldable pub bad_region : Registers → (windows run : List ℕ) (start size : ℕ) → Bool
bad_region registers windows run start size =
    not_pages start size
    || ltb (2 ^ registers.haw) (start + size)
    || not (pages_shown windows (size / 4096) start)
    || shares_tables registers start size (of_windows windows run)
