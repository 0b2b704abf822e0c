use Rattle.std.proofs.Common.{◌∙◌, arith}
use Rattle.image.proofs.WindowRows.{one-shares, two-share}
use Rattle.image.proofs.windows.any_share.Goals as goal

pub returns-then-count-lt6 : goal.returns-then-count-lt6
returns-then-count-lt6 c = one-shares c.args.windows.now (omega arith)

pub returns-then-count-lt9 : goal.returns-then-count-lt9
returns-then-count-lt9 c = c.shares.ensures ∙ two-share c.args.windows.now (omega arith)
