-- Document 02, Ask 10: no walk may end on the interrupt range. One definition, over a page's frame and how many bytes it spans, for
-- every kind of request that walks.
use Rattle.std.specs.Prelude.{ℕ, ◌+◌, ◌-◌, ◌*◌, ◌^◌, Bool, ◌&&◌, leb, ltb}

-- a byte of them, from frame on, lies in FEE00000h to FEEFFFFFh
abbrev pub meets_interrupt_range : (frame span : ℕ) → Bool
meets_interrupt_range frame span = ltb 0xFEE0_0000 (frame + span) && leb frame 0xFEEF_FFFF

-- a page's bytes, by the level of its leaf: 4 KiB, 2 MiB, 1 GiB
abbrev pub span_at : (level : ℕ) → ℕ
span_at level = 2 ^ (12 + 9 * (level - 1))
