-- The 24 bytes of registers.
use Rattle.std.specs.Prelude.{Bool, not, ◌||◌, List, ℕ, eqb, length}
use Rattle.image.specs.Bits.{bit, any_set}
use Rattle.registers.specs.declared.Registers.{Registers}
use Rattle.packing.specs.Buffer.{byte, bytes}

-- not 24 bytes, or a bit set that has to be zero
unfoldable pub malformed_registers : List ℕ → Bool
malformed_registers b =
    not (eqb (length b) 24)
    || any_set (byte b 2) 7 6
    || any_set (byte b 3) 7 4
    || not (eqb (bytes b 7 5) 0)

unfoldable pub unpacked : List ℕ → Registers
unpacked b =
    record {
      haw = byte b 0;
      mgaw = byte b 1;
      levels3 = bit (byte b 2) 0;
      levels4 = bit (byte b 2) 1;
      levels5 = bit (byte b 2) 2;
      pages_2m = bit (byte b 2) 3;
      pages_1g = bit (byte b 2) 4;
      posting = bit (byte b 2) 5;
      root_table = bytes b 15 8;
      interrupt_table = bytes b 23 16;
      s = byte b 4;
      te = bit (byte b 3) 0;
      ire = bit (byte b 3) 1;
      eime = bit (byte b 3) 2;
      cfis = bit (byte b 3) 3;
    }
