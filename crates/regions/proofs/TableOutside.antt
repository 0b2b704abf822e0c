-- A table wholly outside, told by its first byte: windows begin at multiples of 4096, so a window that has one of the table's bytes has the first.
use Prim.Native.Nat.{ℕ, ◌+◌, ◌-◌, ◌%◌, ◌≤◌, ◌<◌}
use mathlib.Core.Bool.{Bool, true, false, not, ◌||◌}
use mathlib.Core.List.{List, [], ◌∷◌}
use mathlib.Core.Path.{◌≡◌, refl, ap, sym, ◌∙◌}
use native.Mathlib.Decide.{dec_le}
use native.Mathlib.Omega.{arith}
use borrow.Author.Tests.{le-leb, lt-leb, lt-ltb, le-ltb}
use lib.Dec.{leb, ltb}
use Rattle.std.specs.Prelude.{if◌then◌else◌}
use Rattle.image.specs.Windows.{Window, windows_of, end_of, holds_all, Spot, nowhere, here, spot_in, overlap, bad_windows}
use Rattle.image.proofs.GoodWindows.{GoodWindow, Good, good}
use Rattle.regions.specs.Outside.{touched_by_any, table_outside}

-- a test of order, told by another of the same numbers
leb-ltb : (a b c d : ℕ) → (a ≤ b → c < d) → (c < d → a ≤ b) → leb a b ≡ ltb c d
leb-ltb a b c d to back = by (dec_le a b)
  where
    by : Dec (a ≤ b) → leb a b ≡ ltb c d
    by (yes h) = le-leb a b h ∙ sym (lt-ltb c d (to h))
    by (no h) = lt-leb a b (omega arith) ∙ sym (le-ltb c d (not-less (dec_le d c)))
      where
        not-less : Dec (d ≤ c) → d ≤ c
        not-less (yes k) = k
        not-less (no k) = absurd (h (back (omega arith)))

first_byte : (w : Window) (run table : ℕ) → GoodWindow w run → table % 4096 ≡ 0
    → holds_all w 1 table ≡ overlap w.start w.size table 4096
first_byte w run table g aligned =
    rw (
      leb-ltb w.start table w.start (table + 4096) (λ h. omega arith) (λ h. omega (arith, g.aligned)),
      leb-ltb (table + 1) (end_of w) table (end_of w) (λ h. omega arith) (λ h. omega arith),
    )

-- some window has the byte at an address
abbrev pub there : Spot → Bool
there nowhere = false
there (here place left) = true

module _ (run table : ℕ) (aligned : table % 4096 ≡ 0) where
  touched : (ws : List Window) → Good ws run → there (spot_in ws 1 table) ≡ touched_by_any ws table
  unfolding spot_in touched_by_any Good
  touched [] g = refl
  touched (w ∷ ws) g = rw (← first_byte w run table g.0 aligned) (by (holds_all w 1 table) (touched ws g.2))
    where
      by : (t : Bool) → there (spot_in ws 1 table) ≡ touched_by_any ws table
          → there (if t then here (w.place + (table - w.start)) (end_of w - table) else spot_in ws 1 table) ≡ t || touched_by_any ws table
      by true rest = refl
      by false rest = rest

pub outside_told : (numbers : List ℕ) (run table : ℕ) → bad_windows numbers run ≡ false → table % 4096 ≡ 0
    → not (there (spot_in (windows_of numbers) 1 table)) ≡ table_outside numbers table
outside_told numbers run table fine aligned = ap not (touched run table aligned (windows_of numbers) (good numbers run fine))
