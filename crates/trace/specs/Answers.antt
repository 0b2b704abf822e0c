-- What the code says: a reader's step, and what a writer did.
use Rattle.std.specs.Prelude.{Option, Some, None, Result, Ok, Err}
use Rattle.traced.specs.declared.Traced.{Traced}
use Rattle.trace.specs.Reader.{ReaderStep, entry, damaged, end}
use Rattle.trace.specs.Writer.{Wrote, kept, full, refused}
use Rattle.trace.specs.declared.Cursor.{Cursor}
use Rattle.trace.specs.declared.Damaged.{Damaged}
use Rattle.trace.specs.declared.Step.{Step}
use Rattle.trace.specs.declared.writer.Refused.{Refused}
use Rattle.trace.specs.declared.writer.Wrote.{Wrote as WroteCode}
use Rattle.trace.specs.declared.writer.Wrote.TheVariants as wrote

-- what was found at a reader's place, with the next one
abbrev pub found_with : Result Traced Damaged → Cursor → ReaderStep
found_with (Ok e) next = entry e next
found_with (Err d) next = damaged next

abbrev pub reader_step_of : Option Step → ReaderStep
reader_step_of (Some s) = found_with s.found s.next
reader_step_of None = end

abbrev pub wrote_of : Result WroteCode Refused → Wrote
wrote_of (Ok (wrote.Kept w)) = kept w
wrote_of (Ok (wrote.Full w)) = full w
wrote_of (Err r) = refused
