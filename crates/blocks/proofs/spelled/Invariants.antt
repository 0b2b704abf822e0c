use Rattle.std.proofs.Common.{◌≡◌, ◌^◌, ◌<◌, length, map, reverse}
use Rattle.image.specs.Bytes.{little_endian}
use Rattle.blocks.proofs.spelled.Given as goal

abbrev pub invariant-loop-byte : goal.invariant-loop-byte
invariant-loop-byte l = (l.value ≡ little_endian (reverse (map (λ b. b.now) l.yielded))) × (l.value < 256 ^ length l.yielded)
