-- Document 01, registers: which values the registers may hold. Any other is refusal 1.
use Rattle.std.specs.Prelude.{ℕ, ◌%◌, ◌^◌, Bool, not, ◌||◌, leb, ltb, eqb}
use Rattle.registers.specs.declared.Registers.{Registers}

-- not from low to high, ends included
abbrev pub outside : ℕ → ℕ → ℕ → Bool
outside x low high = ltb x low || ltb high x

-- not a multiple of 4096 below 2^HAW. The power has no bound: HAW may be any u8 here
abbrev pub bad_table : ℕ → ℕ → Bool
bad_table haw at = not (eqb (at % 4096) 0) || leb (2 ^ haw) at

-- a register is outside the list, in the paper's order
unfoldable pub registers_bad : Registers → Bool
registers_bad r =
    outside r.haw 36 52
    || outside r.mgaw 39 57
    || not (r.levels3 || r.levels4 || r.levels5)
    || bad_table r.haw r.root_table
    || bad_table r.haw r.interrupt_table
    || outside r.s 0 15
