-- What the call that names the first bad register or window answers.
use Rattle.std.specs.Prelude.{ℕ, ◌+◌, List}
use Rattle.std.specs.Prelude.{if◌then◌else◌}
use Rattle.refused.specs.FirstBad.{first_bad}
use Rattle.packing.specs.Arguments.{malformed_windows}
use Rattle.packing.specs.Registers.{malformed_registers, unpacked}
use Rattle.packing.specs.Status.{bad_registers, bad_window_count, none_bad}

-- 70h and the number of the first bad register or window, 0 for none; run is the length of the run of bytes
unfoldable pub first_bad_call : (registers windows : List ℕ) (run : ℕ) → ℕ
first_bad_call registers windows run =
    if malformed_registers registers then bad_registers
    else if malformed_windows windows then bad_window_count
    else none_bad + first_bad (unpacked registers) windows run
