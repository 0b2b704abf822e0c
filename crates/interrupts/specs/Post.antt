-- What an interrupt request leaves in the lent run, from the run as it came and the outcome.
use Rattle.std.specs.Prelude.{ℕ, ◌+◌, ◌/◌, ◌%◌, ◌^◌, List, get_or, set}
use Rattle.image.specs.Bits.{bit}
use Rattle.std.specs.Prelude.{if◌then◌else◌}
use Rattle.image.specs.Windows.{windows_of, on_spot, spot_in}
use Rattle.interrupts.specs.Descriptor.{Notification, silent, notification}
use Rattle.interrupts.specs.Interrupts.{InterruptOutcome, passed, remapped, posted, blocked, refused}

-- a byte with one of its bits set
abbrev pub with_bit : (place byte : ℕ) → ℕ
with_bit place byte = if bit byte place then byte else byte + 2 ^ place

-- the run with a bit of the descriptor that stands at a place of it set
unfoldable pub set_bit : (at place : ℕ) → List ℕ → List ℕ
set_bit at place bytes = set bytes (at + place / 8) (with_bit (place % 8) (get_or bytes (at + place / 8) 0))

-- with a notification ON, bit 256, is set too
abbrev pub notified : (at : ℕ) → Notification → List ℕ → List ℕ
notified at silent bytes = bytes
notified at (notification vector destination) bytes = set_bit at 256 bytes

-- a post sets the vector's request bit, in the descriptor that stands whole in a single window; any other outcome leaves the run as it came
abbrev pub interrupt_written : (windows : List ℕ) → InterruptOutcome → List ℕ → List ℕ
interrupt_written windows passed bytes = bytes
interrupt_written windows (remapped r) bytes = bytes
interrupt_written windows (posted descriptor vector n) bytes =
    on_spot (spot_in (windows_of windows) 64 descriptor) bytes (λ at left. notified at n (set_bit at vector bytes))
interrupt_written windows (blocked f) bytes = bytes
interrupt_written windows (refused number) bytes = bytes
