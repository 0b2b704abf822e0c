use mathlib.Core.Path.{◌∙◌}
use Rattle.trace_calls.proofs.Buffers.{whole}
use Rattle.trace_calls.proofs.reading.write_entry.Goals as goal

pub returns : goal.returns
returns c = c.encode.ensures ∙ whole c.args.entry.now _ c.requires
