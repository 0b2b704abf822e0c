use Rattle.faults.proofs.Buffer.{standing-byte}
use Rattle.faults.proofs.slots.is_standing.Goals as goal

-- Bit 127 is the top bit of the slot's last byte.
pub returns : goal.returns
returns c =
    let s = c in
    standing-byte s.args.buffer.now s.args.slot s.requires (λ i. (c.type_inv.buffer i).fits)
