-- What the status of a call's arguments says of a definition that begins with their lines: one of them decides, or none does.
use Prim.Native.Nat.{ℕ}
use mathlib.Core.Bool.{Bool, true, false, not}
use mathlib.Core.List.{List}
use mathlib.Core.Path.{◌≡◌, refl, sym, ap, ◌∙◌}
use native.Mathlib.Omega.{arith}
use borrow.Author.Tests.{eqb-true}
use lib.Dec.{eqb}
use lib.ListN.{length}
use Rattle.std.specs.Prelude.{if◌then◌else◌}
use Rattle.packing.specs.Arguments.{malformed_windows, on_arguments, argument_status}
use Rattle.packing.specs.Registers.{malformed_registers}
use Rattle.packing.specs.Status.{ok, bad_registers, bad_window_count, bad_answer}

-- arguments that are laid out well
pub record Laid (registers windows answer : List ℕ) : Type 0 where
  pub registers-fine : malformed_registers registers ≡ false
  pub windows-fine : malformed_windows windows ≡ false
  pub answer-whole : length answer ≡ 32

pub record Decided (registers windows answer : List ℕ) (s : ℕ) : Type 1 where
  pub refused : (s ≡ ok → ⊥) → {B : Type 0} (f : ℕ → B) (rest : B) → f s ≡ on_arguments registers windows (length answer) f rest
  pub accepted : s ≡ ok → Laid registers windows answer

pub decided : (registers windows answer : List ℕ) {s : ℕ} → s ≡ argument_status registers windows (length answer)
    → Decided registers windows answer s
decided registers windows answer {s} told = record { refused = refused; accepted = accepted }
  where
    refused : (s ≡ ok → ⊥) → {B : Type 0} (f : ℕ → B) (rest : B) → f s ≡ on_arguments registers windows (length answer) f rest
    refused bad {B} f rest =
        ap f told ∙ by (malformed_registers registers) (malformed_windows windows) (not (eqb (length answer) 32)) (λ h. bad (told ∙ h))
      where
        by : (a b c : Bool) → ((if a then bad_registers else if b then bad_window_count else if c then bad_answer else ok) ≡ ok → ⊥)
            → f (if a then bad_registers else if b then bad_window_count else if c then bad_answer else ok)
            ≡ (if a then f bad_registers else if b then f bad_window_count else if c then f bad_answer else rest)
        by true b c h = refl
        by false true c h = refl
        by false false true h = refl
        by false false false h = absurd (h refl)

    accepted : s ≡ ok → Laid registers windows answer
    accepted fine =
        let each = by (malformed_registers registers) (malformed_windows windows) (eqb (length answer) 32) refl (sym told ∙ fine) in
        record { registers-fine = each.0; windows-fine = each.1; answer-whole = each.2 }
      where
        by : (a b c : Bool) → eqb (length answer) 32 ≡ c
            → (if a then bad_registers else if b then bad_window_count else if not c then bad_answer else ok) ≡ ok
            → (a ≡ false) × (b ≡ false) × (length answer ≡ 32)
        by true b c e h = absurd (omega (arith, h))
        by false true c e h = absurd (omega (arith, h))
        by false false false e h = absurd (omega (arith, h))
        by false false true e h = (refl, refl, eqb-true (length answer) 32 e)
