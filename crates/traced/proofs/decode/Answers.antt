use mathlib.Core.Path.{ap, ◌∙◌}
use native.Mathlib.Omega.{arith}
use Rattle.traced.specs.Answers.{decoded_of}
use Rattle.traced.proofs.Stored.{too_few, by-test}
use Rattle.traced.proofs.decode.Goals as goal

pub returns-then-bytes-lt32 : goal.returns-then-bytes-lt32
returns-then-bytes-lt32 c = too_few c.args.bytes.now c.args.at (omega arith)

pub returns-then-bytes-at : goal.returns-then-bytes-at
returns-then-bytes-at c = too_few c.args.bytes.now c.args.at (omega arith)

pub returns : goal.returns
returns c =
    ap decoded_of c.then_some.ensures
    ∙ by-test c.args.bytes.now c.args.at (omega arith) c.is_well.result c.fields-e.ensures c.is_well.ensures
