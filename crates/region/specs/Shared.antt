-- Document 02, ask 8: a region shares no byte with root, context or interrupt tables or posted descriptors, those of present entries.
use Rattle.std.specs.Prelude.{ℕ, zero, suc, ◌+◌, ◌*◌, ◌^◌, Bool, true, false, not, ◌&&◌, ◌||◌, eqb}
use Rattle.image.specs.Bits.{bit, in_place}
use Rattle.std.specs.Prelude.{if◌then◌else◌}
use Rattle.image.specs.Memory.{Memory, entry, on_fetch}
use Rattle.image.specs.Windows.{overlap}
use Rattle.irte.specs.Irte.{descriptor_address}
use Rattle.registers.specs.declared.Registers.{Registers}

-- so many bytes from start have one in common with so many from another address; an empty region has none
abbrev pub meets : (start size other n : ℕ) → Bool
meets start size other n = not (eqb size 0) && overlap start size other n

-- of a root entry with bit 0: its context table, 4096 bytes
abbrev pub meets_context_table : (start size e : ℕ) → Bool
meets_context_table start size e = bit e 0 && meets start size (in_place e 63 12) 4096

-- of an interrupt entry with bits 0 and 15: its posted descriptor, 64 bytes
abbrev pub meets_descriptor : (start size e : ℕ) → Bool
meets_descriptor start size e = bit e 0 && bit e 15 && meets start size (descriptor_address e) 64

abbrev pub meets_named : (posted : Bool) (start size e : ℕ) → Bool
meets_named posted start size e = if posted then meets_descriptor start size e else meets_context_table start size e

-- an entry of 16 bytes at an address names such bytes; one that can't be fetched names none
abbrev pub meets_named_at : (posted : Bool) (start size : ℕ) → Memory → (at : ℕ) → Bool
meets_named_at posted start size m at = on_fetch (entry 2 m at) false (meets_named posted start size)

-- one of so many from an address on does
unfoldable pub any_named : (posted : Bool) (start size : ℕ) → Memory → (n at : ℕ) → Bool
any_named posted start size m zero at = false
any_named posted start size m (suc n) at =
    meets_named_at posted start size m at || any_named posted start size m n (at + 16)

-- the interrupt table has 2^(S+1) entries
abbrev pub interrupt_entries : Registers → ℕ
interrupt_entries registers = 2 ^ (registers.s + 1)

unfoldable pub shares_tables : Registers → (start size : ℕ) → Memory → Bool
shares_tables registers start size m =
    meets start size registers.root_table 4096
    || any_named false start size m 256 registers.root_table
    || meets start size registers.interrupt_table (16 * interrupt_entries registers)
    || any_named true start size m (interrupt_entries registers) registers.interrupt_table
