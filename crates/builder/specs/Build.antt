-- Document 02, ask 8, the builder: what it answers, and what it leaves in the lent memory, copy and marks. The items are taken on the
-- copy of the region; memory is written at the end, and only where no item had a reason against it.
use Rattle.std.specs.Prelude.{ℕ, ◌/◌, List, eqb, length}
use Rattle.std.specs.Prelude.{if◌then◌else◌}
use Rattle.image.specs.Windows.{of_windows}
use Rattle.registers.specs.declared.Registers.{Registers}
use Rattle.marking.specs.Marking.{Marked, mark_all}
use Rattle.region.specs.Copy.{copied_in, copied_out}
use Rattle.tables.specs.Tables.{Tables, tables}
use Rattle.tables.specs.declared.Tree.{Tree}
use Rattle.builder.specs.Items.{Taken, take_items}
use Rattle.builder.specs.Ready.{Readiness, refusal, not_yet, ready, readiness}

pub data Built : Type 0 where
  all_taken : Built
  -- refusal 1
  refused : (number : ℕ) → Built
  -- with no item: 1 TE is off, 2 the context doesn't translate, 3 the region, 4 the tables aren't as built here, 5 the lent buffers
  not_ready : (reason : ℕ) → Built
  -- at an item, counted from 0: 1 size, 2 alignment, 3 place, 4 rights, 5 frame, 6 overlap, 7 too few free pages, 8 no such page
  at_item : (index reason : ℕ) → Built

-- the lent memory, the copy of the region and the marks of its pages
pub record LentBuffers : Type 0 where
  pub memory : List ℕ
  pub copy : List ℕ
  pub marks : List ℕ

abbrev pub lent : (memory copy marks : List ℕ) → LentBuffers
lent memory copy marks = record { memory = memory; copy = copy; marks = marks }

module _ (registers : Registers) (windows items memory : List ℕ) where
  -- the items were taken
  abbrev pub after_items : Tree → Taken × Tables → Built × LentBuffers
  after_items tree end =
      if eqb end.0.reason 0 then (
        all_taken,
        lent (copied_out windows end.1.bytes tree.start (length end.1.bytes / 8) 0 memory) end.1.bytes end.1.marks,
      )
      else (at_item end.0.index end.0.reason, lent memory end.1.bytes end.1.marks)

  -- the tables were marked
  abbrev pub after_marks : Tree → (copy : List ℕ) → Marked → Built × LentBuffers
  after_marks tree copy marked =
      if marked.0 then after_items tree (take_items registers tree items (length items / 4) 0 (tables copy marked.1))
      else (not_ready 4, lent memory copy marked.1)

  abbrev pub from_copy : Tree → (copy marks : List ℕ) → Built × LentBuffers
  from_copy tree copy marks = after_marks tree copy (mark_all copy tree (length marks))

  abbrev pub when_ready : (copy marks : List ℕ) → Readiness → Built × LentBuffers
  when_ready copy marks (refusal number) = (refused number, lent memory copy marks)
  when_ready copy marks (not_yet reason) = (not_ready reason, lent memory copy marks)
  when_ready copy marks (ready tree) =
      from_copy tree (copied_in (of_windows windows memory) tree.start (length copy / 8) 0 copy) marks

-- a request to the builder: a source's context, a region, and items, over lent memory, copy and marks
unfoldable pub built : Registers → (source start size : ℕ) (windows items : List ℕ) → LentBuffers → Built × LentBuffers
built registers source start size windows items l =
    when_ready registers windows items l.memory l.copy l.marks
    (readiness registers windows l.memory start size (length l.copy) (length l.marks) source)
