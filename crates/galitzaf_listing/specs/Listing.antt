-- Document 02, Ask 4: the call that lists a source's spans, its status and both buffers.
use Rattle.std.specs.Prelude.{ℕ, ◌+◌, ◌≤◌, List, length, replicate}
use Rattle.std.specs.Prelude.{if◌then◌else◌}
use Rattle.mapping.specs.Mapping.{Mapped, mapping_answer}
use Rattle.mapping.specs.Rows.{rows_of, laid_over}
use Rattle.mapping.specs.Told.{Told, refused, passed, faulted, listed, room, shown, told_of}
use Rattle.packing.specs.Arguments.{malformed_windows}
use Rattle.packing.specs.Registers.{malformed_registers, unpacked}
use Rattle.packing.specs.Status.{bad_registers, bad_window_count}

-- refusal 1 by its number, 80h plus a reason, 90h passed, 2000h plus the count, 6000h plus it where there are more
abbrev pub listing_status : Told → ℕ
listing_status (refused number) = number
listing_status passed = 0x90
listing_status (faulted reason) = 0x80 + reason
listing_status (listed count more) = (if more then 0x6000 else 0x2000) + count

-- no more than 4,096 are counted: for the code's contracts
abbrev pub Few : Told → Type 0
Few (refused number) = Unit {0}
Few passed = Unit {0}
Few (faulted reason) = Unit {0}
Few (listed count more) = count ≤ 4096

-- the status, the memory that tables were remembered in, and the rows of the spans
abbrev pub listing_told : (known rows : List ℕ) → Mapped → ℕ × List ℕ × List ℕ
listing_told known rows answer = (
  listing_status (told_of (room (length rows)) answer),
  replicate (length known) 0,
  laid_over (rows_of (shown (room (length rows)) answer)) rows,
)

unfoldable pub list_call : (registers windows image : List ℕ) (source : ℕ) (known rows : List ℕ) → ℕ × List ℕ × List ℕ
list_call registers windows image source known rows =
    if malformed_registers registers then (bad_registers, known, rows)
    else if malformed_windows windows then (bad_window_count, known, rows)
    else listing_told known rows (mapping_answer (unpacked registers) source windows image)
