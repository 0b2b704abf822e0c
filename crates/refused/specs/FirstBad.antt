-- Which register or window refusal 1 is for, by number: the first in the order of docs/RULES.md's list, registers before windows.
use Rattle.std.specs.Prelude.{ℕ, not, ◌||◌, List, ◌≡◌, eqb, take}
use Rattle.std.specs.Prelude.{if◌then◌else◌}
use Rattle.image.specs.Windows.{bad_windows}
use Rattle.registers.specs.Registers.{outside, bad_table, registers_bad}
use Rattle.registers.specs.declared.Registers.{Registers}

unfoldable pub first_bad_register : Registers → ℕ
first_bad_register r =
    if outside r.haw 36 52 then 1
    else if outside r.mgaw 39 57 then 2
    else if not (r.levels3 || r.levels4 || r.levels5) then 3
    else if bad_table r.haw r.root_table then 4
    else if bad_table r.haw r.interrupt_table then 5
    else if outside r.s 0 15 then 6
    else 0

-- three numbers a window: the first window with which those up to it are refused, by itself, beside one before it or as one too many;
-- 8 and its number from 0
unfoldable pub first_bad_window : (numbers : List ℕ) (run : ℕ) → ℕ
first_bad_window numbers run =
    if bad_windows (take 3 numbers) run then 8
    else if bad_windows (take 6 numbers) run then 9
    else if bad_windows (take 9 numbers) run then 10
    else if bad_windows (take 12 numbers) run then 11
    else if bad_windows numbers run then 12
    else 0

unfoldable pub first_bad : Registers → (numbers : List ℕ) (run : ℕ) → ℕ
first_bad r numbers run = if eqb (first_bad_register r) 0 then first_bad_window numbers run else first_bad_register r

-- none is named exactly where neither registers nor windows are refused
abbrev pub NoneBad : Type 0
NoneBad = (r : Registers) (numbers : List ℕ) (run : ℕ)
    → eqb (first_bad r numbers run) 0 ≡ not (registers_bad r || bad_windows numbers run)
