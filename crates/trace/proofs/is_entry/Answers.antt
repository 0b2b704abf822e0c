use mathlib.Core.Path.{◌∙◌}
use lib.ListN.{take, drop}
use Rattle.trace.proofs.Tests.{by-decoded}
use Rattle.trace.proofs.is_entry.Goals as goal

pub returns : goal.returns
returns c = c.is_some.ensures ∙ by-decoded (take 32 (drop c.args.at c.args.bytes.now)) c.decode.result c.decode.ensures
