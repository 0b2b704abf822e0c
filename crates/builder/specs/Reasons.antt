-- Document 02, ask 8: what an item asks for, and the reasons against it that its own numbers tell. 0 is no reason.
use Rattle.std.specs.Prelude.{ℕ, ◌+◌, ◌%◌, ◌^◌, Bool, not, ◌&&◌, ◌||◌, eqb, leb}
use Rattle.image.specs.Bits.{bits, bit}
use Rattle.std.specs.Prelude.{if◌then◌else◌}
use Rattle.registers.specs.declared.Registers.{Registers}
use Rattle.dma.specs.InterruptRange.{meets_interrupt_range}
use Rattle.dma.specs.Translation.{overflows}
use Rattle.builder.specs.declared.items.Item.{Item}

-- bit 2: the page is unmapped, and its frame and rights aren't looked at
abbrev pub unmaps : Item → Bool
unmaps item = bit item.what 2

-- bits 1:0: read and write
abbrev pub rights : Item → ℕ
rights item = bits item.what 1 0

-- 2 MiB; any other size that isn't refused is 4 KiB
abbrev pub is_large : Item → Bool
is_large item = eqb item.size 0x20_0000

-- how many levels come below the page's entry
abbrev pub levels_below : Item → ℕ
levels_below item = if is_large item then 1 else 0

-- frame, rights, and bit 7 for 2 MiB
unfoldable pub leaf_of : Item → ℕ
leaf_of item = item.frame + rights item + (if is_large item then 0x80 else 0)

-- neither 4 KiB nor 2 MiB, or 2 MiB unsupported
abbrev pub bad_size : Registers → Item → Bool
bad_size registers item = not (eqb item.size 0x1000 || is_large item && registers.pages_2m)

abbrev pub bad_alignment : Item → Bool
bad_alignment item = not (eqb (item.place % item.size) 0) || not (unmaps item) && not (eqb (item.frame % item.size) 0)

-- at or above 2^X, or a byte in FEE00000h to FEEFFFFFh
abbrev pub bad_place : Registers → (levels : ℕ) → Item → Bool
bad_place registers levels item = overflows registers levels item.place || meets_interrupt_range item.place item.size

-- not below 2^HAW; ask 10 refuses a frame on the interrupt range likewise
abbrev pub bad_frame : Registers → Item → Bool
bad_frame registers item = leb (2 ^ registers.haw) item.frame || meets_interrupt_range item.frame item.size

unfoldable pub place_reason : Registers → (levels : ℕ) → Item → ℕ
place_reason registers levels item =
    if bad_size registers item then 1
    else if bad_alignment item then 2
    else if bad_place registers levels item then 3
    else 0

-- of a map alone
unfoldable pub map_reason : Registers → Item → ℕ
map_reason registers item =
    if unmaps item then 0
    else if eqb (rights item) 0 then 4
    else if bad_frame registers item then 5
    else 0

-- the first of two
abbrev pub or_else : (first second : ℕ) → ℕ
or_else first second = if eqb first 0 then second else first

abbrev pub item_reason : Registers → (levels : ℕ) → Item → ℕ
item_reason registers levels item = or_else (place_reason registers levels item) (map_reason registers item)
