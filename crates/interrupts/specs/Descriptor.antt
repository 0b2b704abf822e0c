-- Document 01, "Posted": the posted interrupt descriptor, 64 bytes, with request bits 255:0, ON 256, SN 257, and the notification's
-- vector and destination.
use Rattle.std.specs.Prelude.{ℕ, Bool, not, ◌&&◌, ◌||◌}
use Rattle.image.specs.Bits.{bits, bit, any_set}
use Rattle.image.specs.Check.{Check, stop, go}
use Rattle.std.specs.Prelude.{if◌then◌else◌}

pub data Notification : Type 0 where
  silent : Notification
  notification : (vector destination : ℕ) → Notification

abbrev pub reserved_descriptor : (eime : Bool) (d : ℕ) → Bool
reserved_descriptor eime d =
    any_set d 271 258 || any_set d 287 280 || any_set d 511 320 || not eime && (any_set d 295 288 || any_set d 319 304)

abbrev pub notification_destination : (eime : Bool) (d : ℕ) → ℕ
notification_destination eime d = if eime then bits d 319 288 else bits d 303 296

-- document 02, Ask 2: a notification is due where ON is clear and either the entry's URG is set or SN is clear
abbrev pub notification_due : (urgent : Bool) (d : ℕ) → Bool
notification_due urgent d = not (bit d 256) && (urgent || not (bit d 257))

abbrev pub notification_of : (eime urgent : Bool) (d : ℕ) → Notification
notification_of eime urgent d =
    if notification_due urgent d then notification (bits d 279 272) (notification_destination eime d) else silent

unfoldable pub descriptor_check : (eime urgent : Bool) (d : ℕ) → Check Notification
descriptor_check eime urgent d =
    if reserved_descriptor eime d then stop 0x28 else go (notification_of eime urgent d)
