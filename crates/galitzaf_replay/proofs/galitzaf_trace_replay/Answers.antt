use mathlib.Core.Path.{sym, ◌∙◌}
use Rattle.galitzaf_replay.proofs.galitzaf_trace_replay.Goals as goal

pub unpack-requires : goal.unpack-requires
unpack-requires c = sym c.malformed.ensures ∙ c.if-malformed.false
