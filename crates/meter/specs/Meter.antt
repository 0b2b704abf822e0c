-- One meter: a load and a gate, in floats of 64 bits (IEEE 754).
use Rattle.std.specs.Prelude.{ℕ, Bool, false, cond, ◌||◌, pos, Float}
use Rattle.std.specs.Float.{binary64}
use Rattle.std.specs.Float.Ieee.{of_bits, of_int, add, mul, lt}
use Rattle.meter.specs.declared.Gate.{Gate}
use Rattle.meter.specs.declared.Gate.TheVariants.{Off, Above, Outside}
use Rattle.meter.specs.declared.Meter.{Meter}

-- 0, a half and 131,070
abbrev pub nought : Float
nought = of_bits binary64 0

abbrev pub one_half : Float
one_half = of_bits binary64 0x3fe0_0000_0000_0000

abbrev pub most : Float
most = of_bits binary64 0x40ff_ffe0_0000_0000

-- halved, then the count added, in that order
abbrev pub tick_load : Float → ℕ → Float
tick_load load count = add binary64 (mul binary64 load one_half) (of_int binary64 (pos count))

abbrev pub ticked : Meter → ℕ → Meter
ticked meter count = record { load = tick_load meter.load count; gate = meter.gate }

-- strictly above the limit, strictly below the low or strictly above the high
abbrev pub trips_of : Gate → Float → Bool
trips_of Off load = false
trips_of (Above limit) load = lt limit load
trips_of (Outside low high) load = lt load low || lt high load

-- a meter's lent byte
abbrev pub meter_byte : Meter → ℕ
meter_byte meter = cond (trips_of meter.gate meter.load) 1 0

-- a load of 0, and the gate as it was
abbrev pub cleared : Meter → Meter
cleared meter = record { load = nought; gate = meter.gate }
