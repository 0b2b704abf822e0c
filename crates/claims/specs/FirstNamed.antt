-- The window that is named where refusal 1 is for windows: those before it aren't refused, and with it they are.
use Rattle.std.specs.Prelude.{ℕ, suc, ◌+◌, ◌*◌, true, false, List, ◌≡◌, take}
use Rattle.image.specs.Windows.{bad_windows}
use Rattle.refused.specs.FirstBad.{first_bad_window}

abbrev pub FirstNamed : Type 0
FirstNamed = (numbers : List ℕ) (run i : ℕ) → first_bad_window numbers run ≡ 8 + i
    → (bad_windows (take (3 * i) numbers) run ≡ false) × (bad_windows (take (3 * suc i) numbers) run ≡ true)
