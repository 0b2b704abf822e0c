-- What the code says of a place.
use Rattle.std.specs.Prelude.{Option, Some, None, Result, Ok, Err}
use Rattle.trace.specs.declared.Cursor.{Cursor}
use Rattle.trace.specs.declared.Damaged.{Damaged}
use Rattle.replay.specs.Replayed.{Replayed, alike, differs, damaged, end}
use Rattle.replay.specs.declared.Compared.{Compared}
use Rattle.replay.specs.declared.Compared.TheVariants.{Same, Differs}
use Rattle.replay.specs.declared.Replayed.{Replayed as ReplayedCode}

-- what became of a place, with the next one
abbrev pub replayed_with : Result Compared Damaged → Cursor → Replayed
replayed_with (Ok Same) next = alike next
replayed_with (Ok (Differs e)) next = differs e next
replayed_with (Err d) next = damaged next

abbrev pub replayed_of : Option ReplayedCode → Replayed
replayed_of (Some r) = replayed_with r.compared r.next
replayed_of None = end
