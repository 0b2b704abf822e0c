-- A request's source id: bus in 15:8, device and function in 7:0.
use Rattle.std.specs.Prelude.{ℕ, ◌+◌, ◌*◌, ◌^◌}
use Rattle.image.specs.Bits.{bits}

abbrev pub bus_of : ℕ → ℕ
bus_of id = bits id 15 8

abbrev pub devfn_of : ℕ → ℕ
devfn_of id = bits id 7 0

abbrev pub source_of : ℕ → ℕ → ℕ
source_of bus devfn = bus * 2 ^ 8 + devfn
