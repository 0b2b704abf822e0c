-- No page has size 0.
use mathlib.Core.Bool.{false}
use mathlib.Core.Path.{◌≡◌, refl}
use lib.Dec.{eqb}
use Rattle.translation.specs.Answers.{size_of}
use Rattle.translation.specs.declared.PageSize.{PageSize}
use Rattle.translation.specs.declared.PageSize.TheVariants.{FourKiB, TwoMiB, OneGiB}
use Rattle.galitzaf_translation.proofs.pack_page.Goals as goal

some_size : (size : PageSize) → eqb (size_of size) 0 ≡ false
some_size FourKiB = refl
some_size TwoMiB = refl
some_size OneGiB = refl

pub returns : goal.returns
returns c =
    rw (
      c.head.ensures,
      c.flag-write.ensures.0,
      c.flag-read.ensures.0,
      c.bytes.ensures,
      some_size c.args.size,
    )
