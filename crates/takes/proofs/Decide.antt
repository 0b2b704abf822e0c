-- A take by what its tests and its fetch tell.
use Prim.Native.Nat.{ℕ, ◌%◌}
use mathlib.Core.Bool.{Bool, true, false}
use mathlib.Core.List.{List}
use mathlib.Core.Path.{◌≡◌, refl, ap, sym, ◌∙◌}
use borrow.Author.Tests.{eq-eqb, ne_eqb}
use lib.ListN.{length}
use Rattle.image.specs.Bits.{bit}
use Rattle.std.specs.Prelude.{Option, Some, None, if◌then◌else◌}
use Rattle.image.specs.Memory.{missing, found, entry}
use Rattle.image.specs.Rules.{run}
use Rattle.image.specs.Windows.{windows_of, here, on_spot, spot_in, of_windows, bad_windows}
use Rattle.registers.specs.Registers.{registers_bad}
use Rattle.registers.specs.declared.Registers.{Registers}
use Rattle.takes.specs.Answers.{handed_of}
use Rattle.takes.specs.Take.{TakeOutcome, handed, refused, highest, take_rules, clear_bit, take_written, take_answer}
use Rattle.interrupts.proofs.Exact.{at_place}
use Rattle.takes.proofs.Takes.{handed-there, none-there}

module _ (registers : Registers) (descriptor : ℕ) (windows image : List ℕ) where
  -- the answer, and the run that it leaves
  abbrev pub Answers : TakeOutcome → List ℕ → Type 0
  Answers o after =
      (o ≡ take_answer registers descriptor windows image) × (after ≡ take_written windows descriptor (take_answer registers descriptor windows image) image)

  both : {o : TakeOutcome} {after : List ℕ} → o ≡ take_answer registers descriptor windows image → after ≡ take_written windows descriptor o image → Answers o after
  both same left = (same, left ∙ ap (λ (o : TakeOutcome). take_written windows descriptor o image) same)

  -- refusal 1's two tests
  pub refuses-windows : bad_windows windows (length image) ≡ true → Answers (refused 1) image
  refuses-windows h = both (rw h) refl

  pub refuses-registers : registers_bad registers ≡ true → Answers (refused 1) image
  unfolding take_rules run
  refuses-registers h = both (by (bad_windows windows (length image))) refl
    where
      by : (t : Bool) → refused 1 ≡ (if t then refused 1 else run (take_rules registers descriptor) (of_windows windows image))
      by true = refl
      by false = rw h

  module _ (good : bad_windows windows (length image) ≡ false) (fit : registers_bad registers ≡ false) where
    pub unaligned : (descriptor % 64 ≡ 0 → ⊥) → Answers (refused 5) image
    unfolding take_rules run
    unaligned h = both (rw (good, fit, ne_eqb (descriptor % 64) 0 h)) refl

    module _ (aligned : descriptor % 64 ≡ 0) where
      pub outside : entry 8 (of_windows windows image) descriptor ≡ missing → Answers (refused 5) image
      unfolding take_rules run
      outside h = both (rw (good, fit, eq-eqb (descriptor % 64) 0 aligned, h)) refl

      module _ {d : ℕ} (there : entry 8 (of_windows windows image) descriptor ≡ found d) where
        pub answers : {o : TakeOutcome} → o ≡ highest 256 (bit d) → o ≡ take_answer registers descriptor windows image
        unfolding take_rules run
        answers h = rw (good, fit, eq-eqb (descriptor % 64) 0 aligned, there) h

        pub answered : {o : TakeOutcome} {after : List ℕ} → o ≡ highest 256 (bit d) → after ≡ take_written windows descriptor o image → Answers o after
        answered h left = both (answers h) left

-- what is written, at the place that the code finds
module _ (windows image : List ℕ) (descriptor : ℕ) {at k left : ℕ} (found_at : at ≡ on_spot (spot_in (windows_of windows) 64 descriptor) 0 (λ place left. place))
    (there : spot_in (windows_of windows) 64 descriptor ≡ here k left) where
  pub handed-at : (vector : ℕ) → clear_bit at vector (clear_bit at 256 image) ≡ take_written windows descriptor (handed vector) image
  handed-at vector = rw (at_place windows image descriptor found_at there) (sym (handed-there windows image descriptor there vector))

  -- an answer that is no vector leaves all but ON
  pub no-vector : (r : Option ℕ) → ((v : ℕ) → r ≡ Some v → ⊥) → clear_bit at 256 image ≡ take_written windows descriptor (handed_of r) image
  no-vector (Some v) h = absurd (h v refl)
  no-vector None h = rw (at_place windows image descriptor found_at there) (sym (none-there windows image descriptor there))
