-- A request's rules up to the table: what holds of every answer given before it, and of the rules of the whole index, holds of the
-- request.
use Prim.Native.Nat.{ℕ}
use mathlib.Core.Bool.{Bool, true, false, not, ◌||◌}
use mathlib.Core.Path.{◌≡◌, refl, sym}
use native.Mathlib.Nat.{add-zero}
use borrow.Author.Tests.{not-true, not-false}
use lib.Dec.{eqb}
use Rattle.image.specs.Bits.{bit, any_set}
use Rattle.image.specs.Check.{Check, stop, go, on_check}
use Rattle.image.specs.Rules.{Rules, answer, map_rules}
use Rattle.image.proofs.Choices.{chosen}
use Rattle.registers.specs.Admission.{Admitted, refusal, pass, taken_up, admission, on_admission, in_interrupt_range}
use Rattle.registers.specs.declared.Registers.{Registers}
use Rattle.faults.specs.Record.{interrupt_fault}
use Rattle.interrupts.specs.Claims.{whole_index, before_table}
use Rattle.interrupts.specs.Interrupts.{index_rules, InterruptOutcome, passed, blocked, refused, delivered, on_format, request_rules, interrupt_rules}
use Rattle.interrupts.specs.Request.{Format, compatibility, remappable, handle_of, request_check}
use Rattle.interrupts.specs.declared.InterruptRequest.{InterruptRequest}

-- the reasons of faults before the table
abbrev pub early : ℕ → Bool
early reason = eqb reason 0x20 || eqb reason 0x21 || eqb reason 0x25

-- a request that its format's check stops is blocked before the table; the index that it lets through is the whole one
abbrev Formed : InterruptRequest → Check Format → Type 0
Formed request (stop reason) = early reason ≡ true
Formed request (go compatibility) = Unit {0}
Formed request (go (remappable index)) = index ≡ whole_index request

formed : (registers : Registers) (request : InterruptRequest)
    → Formed request (request_check registers request.address request.«data»)
unfolding request_check
formed registers request =
    chosen F (not (bit address 4))
    (λ h. chosen F (registers.eime || not registers.cfis) (λ h. refl) (λ h. tt))
    (λ h. chosen F (not (bit address 3)) (λ plain. rw (not-true (bit address 3) plain) (sym (add-zero (handle_of address))))
    (λ shv. chosen F (any_set request.«data» 31 16) (λ h. refl) (λ h. rw (not-false (bit address 3) shv))))
  where
    address : ℕ
    address = request.address

    F : Check Format → Type 0
    F = Formed request

-- the rules of a request's whole index
abbrev pub at_table : Registers → InterruptRequest → Rules InterruptOutcome
at_table registers request =
    map_rules (delivered request.source.id (whole_index request)) (index_rules registers request.source.id (whole_index request))

module _ (registers : Registers) (request : InterruptRequest) (P : Rules InterruptOutcome → Type 0)
    (before : (o : InterruptOutcome) → before_table o ≡ true → P (answer o)) (indexed : P (at_table registers request)) where
  pub request-cases : P (interrupt_rules registers request)
  unfolding interrupt_rules request_rules interrupt_fault
  request-cases = admitted (admission registers (not (in_interrupt_range request.address)) registers.ire)
    where
      source : ℕ
      source = request.source.id

      formatted : (k : Check Format) → Formed request k
          → P (on_check k (λ reason. answer (blocked (interrupt_fault reason false source 0))) (on_format registers source))
      formatted (stop reason) h = before (blocked (interrupt_fault reason false source 0)) h
      formatted (go compatibility) h = before passed refl
      formatted (go (remappable index)) h = rw h indexed

      admitted : (k : Admitted) → P (on_admission k refused passed (request_rules registers request))
      admitted (refusal n) = before (refused n) refl
      admitted pass = before passed refl
      admitted taken_up = formatted (request_check registers request.address request.«data») (formed registers request)
