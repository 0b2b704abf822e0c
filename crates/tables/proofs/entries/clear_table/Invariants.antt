use Rattle.std.proofs.Common.{◌≡◌, ◌+◌, ◌-◌, ◌*◌}
use Rattle.tables.specs.Tables.{words_zeroed}
use Rattle.tables.proofs.entries.clear_table.Given as goal

-- What is left to clear leads to what the whole does.
abbrev pub invariant-loop-word : goal.invariant-loop-word
invariant-loop-word l =
    words_zeroed (512 - l.word) l.bytes (l.table + 8 * l.word) ≡ words_zeroed 512 l.initial.bytes l.table
