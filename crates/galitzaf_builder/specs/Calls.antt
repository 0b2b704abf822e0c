-- Document 02, Ask 8: the call that maps and unmaps a list of pages, its status and every lent buffer.
use Rattle.std.specs.Prelude.{ℕ, ◌+◌, ◌%◌, not, List, eqb, length, set}
use Rattle.std.specs.Prelude.{if◌then◌else◌}
use Rattle.builder.specs.Build.{Built, all_taken, refused, not_ready, at_item, LentBuffers, built}
use Rattle.packing.specs.Arguments.{malformed_windows}
use Rattle.packing.specs.Registers.{malformed_registers, unpacked}
use Rattle.packing.specs.Status.{ok, bad_registers, bad_window_count}

abbrev pub bad_items : ℕ
bad_items = 0x109

-- refusal 1 by its number, A0h plus a reason with no item, B0h plus the reason against an item, whose index is told beside it
abbrev pub build_status : Built → (item : List ℕ) → ℕ × List ℕ
build_status all_taken item = (ok, item)
build_status (refused number) item = (number, item)
build_status (not_ready reason) item = (0xA0 + reason, item)
build_status (at_item index reason) item = (0xB0 + reason, set item 0 index)

-- the status; memory, copy and marks; the index of the item
abbrev pub build_told : Built × LentBuffers → (item : List ℕ) → ℕ × LentBuffers × List ℕ
build_told b item = ((build_status b.0 item).0, b.1, (build_status b.0 item).1)

-- items are four numbers each, and one number is lent for the index of the item that is refused
unfoldable pub build_call : (registers windows : List ℕ) (source start size : ℕ) (items : List ℕ) → LentBuffers → (item : List ℕ) → ℕ × LentBuffers × List ℕ
build_call registers windows source start size items l item =
    if malformed_registers registers then (bad_registers, l, item)
    else if malformed_windows windows then (bad_window_count, l, item)
    else if not (eqb (length items % 4) 0) then (bad_items, l, item)
    else if not (eqb (length item) 1) then (bad_items, l, item)
    else build_told (built (unpacked registers) source start size windows items l) item
