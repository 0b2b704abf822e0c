-- Document 01, "Page entries" and "Grant": an entry of 8 bytes at a level from 5 down to 1.
use Rattle.std.specs.Prelude.{ℕ, ◌+◌, ◌-◌, ◌*◌, Bool, not, ◌&&◌, ◌||◌, eqb, leb}
use Rattle.image.specs.Bits.{bits, bit, any_set, in_place}
use Rattle.std.specs.Prelude.{if◌then◌else◌}
use Rattle.registers.specs.declared.Registers.{Registers}
use Rattle.image.specs.Check.{Check, stop, go}

-- a lacking right: 05h for a write, 06h for a read
abbrev pub denied : (write : Bool) → ℕ
denied write = if write then 0x05 else 0x06

-- the request's own right: bit 0 read, bit 1 write
abbrev pub own_right : (write : Bool) (e : ℕ) → Bool
own_right write e = if write then bit e 1 else bit e 0

-- an entry that leads to a page and to no table: at level 1, where bit 7 is not looked at, any; above it a large page. At levels 4
-- and 5 bit 7 is reserved, so the check has stopped
abbrev pub leaf_at : (level e : ℕ) → Bool
leaf_at level e = eqb level 1 || bit e 7

unfoldable pub page_reserved : Registers → (level e : ℕ) → Bool
page_reserved registers level e =
    any_set e 51 registers.haw
    || leb 4 level && bit e 7
    || eqb level 3 && bit e 7 && not registers.pages_1g
    || eqb level 2 && bit e 7 && not registers.pages_2m
    || eqb level 3 && bit e 7 && any_set e 29 12
    || eqb level 2 && bit e 7 && any_set e 20 12

-- 05h or 06h, 0Ch, 05h or 06h in this order; else on with the frame, or the next table's address
unfoldable pub page_check : Registers → (write : Bool) (level e : ℕ) → Check ℕ
page_check registers write level e =
    if not (any_set e 1 0) then stop (denied write)
    else if page_reserved registers level e then stop 0x0C
    else if not (own_right write e) then stop (denied write)
    else go (in_place e 51 12)

-- the frame plus the address's low 12, 21 or 30 bits, by the level of the leaf
abbrev pub host_address : (level frame address : ℕ) → ℕ
host_address level frame address = frame + bits address (11 + 9 * (level - 1)) 0
