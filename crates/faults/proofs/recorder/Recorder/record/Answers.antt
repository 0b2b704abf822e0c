use Rattle.std.proofs.Common.{◌+◌, ◌*◌, ◌≤◌, length}
use borrow.Author.Tests.{lt-leb}
use Rattle.faults.proofs.Recording.{in_reach, counted}
use Rattle.faults.proofs.recorder.Recorder.record.Goals.{Else-slots-slot}
use Rattle.faults.proofs.recorder.Recorder.record.Goals as goal

-- Past the refusal the next slot lies in the buffer.
reached : (c : Else-slots-slot) → 16 * c.args.self.now.next + 16 ≤ length c.args.buffer.now
reached c =
    in_reach (length c.args.buffer.now) c.args.self.now.next
    (rw (← c.slot_count-slots.ensures) (lt-leb _ _ c.if-slots-slot.false))

pub is_standing-requires : goal.is_standing-requires
is_standing-requires c = reached (goal.at.is_standing-requires c).Else-slots-slot

pub write_record-requires : goal.write_record-requires
write_record-requires c = reached (goal.at.write_record-requires c).Else-slots-slot

pub slot_after-self-requires : goal.slot_after-self-requires
slot_after-self-requires c = (c.if-slots-slot.false, rw c.slot_count-slots.ensures (counted _).0)
