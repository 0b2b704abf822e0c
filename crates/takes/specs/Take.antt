-- Document 02, Ask 13, the taking side of posted interrupts: what a take answers, and what it leaves in the lent run.
use Rattle.std.specs.Prelude.{ℕ, zero, suc, ◌+◌, ◌-◌, ◌/◌, ◌%◌, ◌^◌, Bool, not, List, eqb, get_or, set}
use Rattle.image.specs.Bits.{bit}
use Rattle.std.specs.Prelude.{if◌then◌else◌}
use Rattle.image.specs.EntryKind.{posted_descriptor}
use Rattle.image.specs.Rules.{Rules, answer, fetch, run}
use Rattle.image.specs.Windows.{windows_of, on_spot, spot_in, over_windows}
use Rattle.registers.specs.Registers.{registers_bad}
use Rattle.registers.specs.declared.Registers.{Registers}

pub data TakeOutcome : Type 0 where
  -- the highest request bit, which is cleared
  handed : (vector : ℕ) → TakeOutcome
  -- no request bit stands
  none : TakeOutcome
  refused : (number : ℕ) → TakeOutcome

-- the highest of the places below n that a test holds of
unfoldable pub highest : (n : ℕ) → (ℕ → Bool) → TakeOutcome
highest zero test = none
highest (suc n) test = if test n then handed n else highest n test

-- refusal 1, then 5: the descriptor is not 64-aligned or doesn't lie whole in the memory. No other bit of it is looked at
unfoldable pub take_rules : Registers → (descriptor : ℕ) → Rules TakeOutcome
take_rules registers descriptor =
    if registers_bad registers then answer (refused 1)
    else if not (eqb (descriptor % 64) 0) then answer (refused 5)
    else fetch posted_descriptor descriptor (refused 5) (λ d. answer (highest 256 (bit d)))

-- over lent memory (document 02, ask 9): windows that are refused are refusal 1 too, and a descriptor lies whole in a single window or
-- is refusal 5
abbrev pub take_answer : Registers → (descriptor : ℕ) → (windows bytes : List ℕ) → TakeOutcome
take_answer registers descriptor windows bytes =
    over_windows (refused 1) (run (take_rules registers descriptor)) windows bytes

-- a byte with one of its bits clear
abbrev pub without_bit : (place byte : ℕ) → ℕ
without_bit place byte = if bit byte place then byte - 2 ^ place else byte

-- the run with a bit of the descriptor that stands at a place of it clear
unfoldable pub clear_bit : (at place : ℕ) → List ℕ → List ℕ
clear_bit at place bytes = set bytes (at + place / 8) (without_bit (place % 8) (get_or bytes (at + place / 8) 0))

-- a take clears ON, bit 256, and the bit that it hands out, in the descriptor that stands whole in a single window; a refused one leaves
-- the run as it came
abbrev pub take_written : (windows : List ℕ) (descriptor : ℕ) → TakeOutcome → List ℕ → List ℕ
take_written windows descriptor (handed vector) bytes =
    on_spot (spot_in (windows_of windows) 64 descriptor) bytes (λ at left. clear_bit at vector (clear_bit at 256 bytes))
take_written windows descriptor none bytes = on_spot (spot_in (windows_of windows) 64 descriptor) bytes (λ at left. clear_bit at 256 bytes)
take_written windows descriptor (refused number) bytes = bytes
