-- Document 01, "Source check": SVT is 83:82 of the remapping entry, SQ 81:80, SID 79:64.
use Rattle.std.specs.Prelude.{ℕ, Bool, true, ◌&&◌, eqb, leb}
use Rattle.image.specs.Bits.{bits}
use Rattle.std.specs.Prelude.{if◌then◌else◌}
use Rattle.registers.specs.Source.{bus_of}

-- SQ 0 compares all bits, 1 ignores bit 2, 2 ignores bits 2:1, 3 ignores bits 2:0
abbrev pub same_source : (sq sid source : ℕ) → Bool
same_source sq sid source =
    if eqb sq 0 then eqb sid source
    else if eqb sq 1 then eqb (bits sid 15 3) (bits source 15 3) && eqb (bits sid 1 0) (bits source 1 0)
    else if eqb sq 2 then eqb (bits sid 15 3) (bits source 15 3) && eqb (bits sid 0 0) (bits source 0 0)
    else eqb (bits sid 15 3) (bits source 15 3)

-- the bus from SID 15:8 to SID 7:0, ends included
abbrev pub bus_in_range : (sid source : ℕ) → Bool
bus_in_range sid source = leb (bits sid 15 8) (bus_of source) && leb (bus_of source) (bits sid 7 0)

-- SVT 0 checks nothing, 1 the source id, 2 its bus; 3 is reserved and doesn't come here
unfoldable pub source_allowed : (source e : ℕ) → Bool
source_allowed source e =
    if eqb (bits e 83 82) 0 then true
    else if eqb (bits e 83 82) 1 then same_source (bits e 81 80) (bits e 79 64) source
    else bus_in_range (bits e 79 64) source
