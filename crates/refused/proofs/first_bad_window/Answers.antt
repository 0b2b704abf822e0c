use Rattle.std.proofs.Common.{◌≡◌, ℕ, zero, suc, ◌+◌, ◌*◌, ◌<◌, ◌≤◌, Bool, true, false, List, take, sym, ◌∙◌, arith}
use Rattle.std.specs.Prelude.{if◌then◌else◌}
use Rattle.image.specs.Windows.{bad_windows}
use Rattle.refused.specs.FirstBad.{first_bad_window}
use Rattle.refused.proofs.first_bad_window.Goals as goal

module _ (numbers : List ℕ) (run : ℕ) where
  -- the windows before so many aren't refused
  abbrev FineBelow : ℕ → Type 0
  FineBelow n = (k : ℕ) → k < n → bad_windows (take (3 * k + 3) numbers) run ≡ false

  named : (n : ℕ) → n < 4 → FineBelow n → bad_windows (take (3 * n + 3) numbers) run ≡ true → 8 + n ≡ first_bad_window numbers run
  unfolding first_bad_window
  named zero h fine bad = rw bad
  named (suc zero) h fine bad = rw (fine 0 (omega arith), bad)
  named (suc (suc zero)) h fine bad = rw (fine 0 (omega arith), fine 1 (omega arith), bad)
  named (suc (suc (suc zero))) h fine bad = rw (fine 0 (omega arith), fine 1 (omega arith), fine 2 (omega arith), bad)
  named (suc (suc (suc (suc n)))) h fine bad = absurd (omega arith)

  last : (n : ℕ) → 4 ≤ n → FineBelow n → {bad : Bool} → bad_windows numbers run ≡ bad → (if bad then 12 else 0) ≡ first_bad_window numbers run
  unfolding first_bad_window
  last n h fine is = rw (fine 0 (omega arith), fine 1 (omega arith), fine 2 (omega arith), fine 3 (omega arith), is)

pub returns-then-bad_first : goal.returns-then-bad_first
returns-then-bad_first c =
    named c.args.windows.now c.args.run c.loop-window.window c.loop-window-test.true c.loop-window.invariant
    (sym c.bad_first.ensures ∙ c.if-bad_first.true)

pub returns-then-bad_windows : goal.returns-then-bad_windows
returns-then-bad_windows c =
    last c.args.windows.now c.args.run c.loop-window.window c.loop-window-test.false c.loop-window.invariant
    (sym c.bad_windows.ensures ∙ c.if-bad_windows.true)

pub returns : goal.returns
returns c =
    last c.args.windows.now c.args.run c.loop-window.window c.loop-window-test.false c.loop-window.invariant
    (sym c.bad_windows.ensures ∙ c.if-bad_windows.false)
