use Rattle.faults.proofs.Buffer.{cleared-byte}
use Rattle.faults.proofs.slots.clear_record.Goals as goal

-- Bit 127 is the top bit of the slot's last byte.
pub returns : goal.returns
returns c =
    let s = c in
    cleared-byte s.args.buffer.now s.args.slot s.requires (λ i. (c.items_fit i).fits)
