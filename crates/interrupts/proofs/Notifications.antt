-- A notification is answered exactly where ON was clear and either the entry's URG was set or SN was clear.
use Prim.Native.Nat.{ℕ, ◌+◌, ◌*◌}
use mathlib.Core.Bool.{Bool, true, false}
use mathlib.Core.Path.{◌≡◌, refl, ap, sym, ◌∙◌}
use native.Mathlib.Omega.{arith}
use Rattle.image.specs.Bits.{bits}
use Rattle.image.specs.Check.{go}
use Rattle.std.specs.Prelude.{if◌then◌else◌}
use Rattle.image.specs.Windows.{of_windows}
use Rattle.image.proofs.Choices.{past, same-go}
use Rattle.interrupts.specs.Claims.{bit_at, due, indexed_entry, NotificationExactly}
use Rattle.interrupts.specs.Descriptor.{Notification, silent, notification, reserved_descriptor, notification_destination, notification_due, notification_of, descriptor_check}
use Rattle.interrupts.proofs.EntryBits.{entry-bit}
use Rattle.interrupts.proofs.Raised.{Posting, raised, fields-of, posted-over}

-- the notification that a descriptor's check gives
notified : (eime urgent : Bool) (d : ℕ) {n : Notification} → descriptor_check eime urgent d ≡ go n → notification_of eime urgent d ≡ n
unfolding descriptor_check
notified eime urgent d {n} h = same-go (past (reserved_descriptor eime d) 0x28 (go (notification_of eime urgent d)) n h).1

due-of : (eime urgent : Bool) (d : ℕ) → due (notification_of eime urgent d) ≡ notification_due urgent d
due-of eime urgent d = by (notification_due urgent d)
  where
    by : (t : Bool) → due (if t then notification (bits d 279 272) (notification_destination eime d) else silent) ≡ t
    by true = refl
    by false = refl

pub notification-exactly : NotificationExactly
notification-exactly registers request windows bytes are at vector n e =
    let m = of_windows windows bytes in
    let over = posted-over registers request windows bytes e in
    let good = over.0 in
    let p : Posting registers request m at vector n = rw over.1 at (raised registers request m) in
    let urg : p.urgent ≡ bit_at windows bytes (8 * indexed_entry registers request + 14) =
    (fields-of registers request m p).2 ∙ entry-bit windows bytes good are 2 (indexed_entry registers request) 14 p.told.fetched (omega arith) in
    ap due (sym (notified registers.eime p.urgent p.d p.checked)) ∙ due-of registers.eime p.urgent p.d
    ∙ rw (urg, entry-bit windows bytes good are 8 at 256 p.fetched (omega arith), entry-bit windows bytes good are 8 at 257 p.fetched (omega arith))
