-- What the code says that it decoded.
use Rattle.std.specs.Prelude.{Option, Some, None}
use Rattle.traced.specs.Decoded.{Decoded, malformed, entry}
use Rattle.traced.specs.declared.Traced.{Traced}

abbrev pub decoded_of : Option Traced → Decoded
decoded_of (Some e) = entry e
decoded_of None = malformed
