use Rattle.std.proofs.Common.{◌≡◌, ℕ, ◌+◌, ◌*◌, ◌<◌, false, take}
use Rattle.image.specs.Windows.{bad_windows}
use Rattle.refused.proofs.first_bad_window.Given as goal

-- the windows so far aren't refused
abbrev pub invariant-loop-window : goal.invariant-loop-window
invariant-loop-window l = (k : ℕ) → k < l.window → bad_windows (take (3 * k + 3) l.windows) l.run ≡ false
