-- A replay's call: malformed registers and windows first.
use Rattle.std.specs.Prelude.{ℕ, List}
use Rattle.std.specs.Prelude.{if◌then◌else◌}
use Rattle.packing.specs.Arguments.{malformed_windows}
use Rattle.packing.specs.Registers.{malformed_registers, unpacked}
use Rattle.packing.specs.Status.{bad_registers, bad_window_count}
use Rattle.trace_calls.specs.Calls.{replay_call}

-- the status, the image, the next place, and the entry of the answer now, where it differs
unfoldable pub trace_replay_call : (registers windows image bytes cursor entry : List ℕ) → ℕ × List ℕ × List ℕ × List ℕ
trace_replay_call registers windows image bytes cursor entry =
    if malformed_registers registers then (bad_registers, image, cursor, entry)
    else if malformed_windows windows then (bad_window_count, image, cursor, entry)
    else replay_call (unpacked registers) windows image bytes cursor entry
