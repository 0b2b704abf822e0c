-- By the lines of the definition; a fifth window is one too many, whatever stands behind it.
use Prim.Native.Nat.{ℕ, suc, ◌+◌, ◌*◌, ◌≤◌, ◌<◌}
use mathlib.Core.Bool.{Bool, true, false}
use mathlib.Core.List.{List, []}
use mathlib.Core.Path.{◌≡◌, refl, sym, ap, ◌∙◌}
use native.Mathlib.Omega.{arith}
use native.Mathlib.Decide.{dec_le}
use borrow.Author.Tests.{lt-ltb}
use lib.ListN.{length, take, length-take}
use lib.Seq.{take_all}
use Rattle.std.specs.Prelude.{if◌then◌else◌}
use Rattle.image.specs.Windows.{windows_of, bad_list, bad_windows}
use Rattle.refused.specs.FirstBad.{first_bad_window}
use Rattle.claims.specs.FirstNamed.{FirstNamed}

no-window : (run : ℕ) → bad_windows [] run ≡ false
unfolding bad_windows bad_list windows_of
no-window run = refl

too_many : (numbers : List ℕ) (run : ℕ) → 12 < length numbers → bad_windows (take 15 numbers) run ≡ true
unfolding bad_windows
too_many numbers run h =
    let more : 12 < length (take 15 numbers) = simp length-take (omega arith) in
    rw (lt-ltb 12 (length (take 15 numbers)) more)

module _ (numbers : List ℕ) (run : ℕ) where
  fifth : bad_windows (take 12 numbers) run ≡ false → bad_windows numbers run ≡ true → bad_windows (take 15 numbers) run ≡ true
  fifth four all = go (dec_le (length numbers) 12)
    where
      go : Dec (length numbers ≤ 12) → bad_windows (take 15 numbers) run ≡ true
      go (yes few) =
          let same : bad_windows numbers run ≡ false = ap (λ (l : List ℕ). bad_windows l run) (sym (take_all 12 numbers few)) ∙ four in
          let z : ◌≡◌ {A = ℕ} 0 1 = cc in
          absurd (omega arith)
      go (no many) = too_many numbers run (omega arith)

pub first-named : FirstNamed
unfolding first_bad_window
first-named numbers run i h =
    go (bad_windows (take 3 numbers) run) (bad_windows (take 6 numbers) run) (bad_windows (take 9 numbers) run)
    (bad_windows (take 12 numbers) run) (bad_windows numbers run) refl refl refl refl refl h
  where
    Named : Type 0
    Named = (bad_windows (take (3 * i) numbers) run ≡ false) × (bad_windows (take (3 * suc i) numbers) run ≡ true)

    go : (a b c d e : Bool) → bad_windows (take 3 numbers) run ≡ a → bad_windows (take 6 numbers) run ≡ b
        → bad_windows (take 9 numbers) run ≡ c → bad_windows (take 12 numbers) run ≡ d → bad_windows numbers run ≡ e
        → (if a then 8 else if b then 9 else if c then 10 else if d then 11 else if e then 12 else 0) ≡ 8 + i → Named
    go true b c d e p q r s t h = let is : i ≡ 0 = omega arith in rw is (no-window run, p)
    go false true c d e p q r s t h = let is : i ≡ 1 = omega arith in rw is (p, q)
    go false false true d e p q r s t h = let is : i ≡ 2 = omega arith in rw is (q, r)
    go false false false true e p q r s t h = let is : i ≡ 3 = omega arith in rw is (r, s)
    go false false false false true p q r s t h = let is : i ≡ 4 = omega arith in rw is (s, fifth numbers run s t)
    go false false false false false p q r s t h = absurd (omega arith)
