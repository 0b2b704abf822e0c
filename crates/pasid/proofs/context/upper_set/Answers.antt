use Rattle.image.specs.Answers.{number64}
use Rattle.pasid.proofs.Wide.{context-upper}
use Rattle.pasid.proofs.context.upper_set.Goals as goal

pub returns : goal.returns
returns c = rw (context-upper (number64 c.args.e), c.any_set.ensures, c.any_set-2.ensures, c.any_set-3.ensures)
