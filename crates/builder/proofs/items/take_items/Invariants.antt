use Rattle.std.proofs.Common.{◌≡◌, ◌-◌, ◌/◌, length}
use Rattle.tables.specs.Tables.{tables}
use Rattle.builder.specs.Items.{take_items}
use Rattle.builder.proofs.items.take_items.Given as goal

-- What is left to take leads to what the whole does.
abbrev pub invariant-loop-i : goal.invariant-loop-i
invariant-loop-i l =
    take_items l.registers l.tree l.items (length l.items / 4 - l.i) l.i (tables l.copy l.marks)
    ≡ take_items l.registers l.tree l.items (length l.items / 4) 0 (tables l.initial.copy l.initial.marks)
