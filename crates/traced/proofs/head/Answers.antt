use native.Mathlib.Omega.{arith}
use Rattle.traced.proofs.Heads.{added-head}
use Rattle.traced.proofs.head.Goals as goal

pub returns : goal.returns
returns c =
    added-head c.args.e record {
      kind_fits = omega arith;
      answer-fits = omega arith;
      number_fits = omega arith;
      flags-fits = omega arith;
      source_fits = omega arith;
      vector-fits = omega arith;
      posted-fits = omega arith;
      address-fits = omega arith;
      data-fits = omega arith;
      destination-fits = omega arith;
      value-fits = omega arith;
    }
