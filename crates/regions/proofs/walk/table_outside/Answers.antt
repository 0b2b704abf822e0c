use mathlib.Core.Bool.{Bool, true, false, not}
use mathlib.Core.Path.{◌≡◌, ap, sym, ◌∙◌}
use lib.ListN.{length}
use Rattle.std.specs.Prelude.{Option, Some, None, is_some}
use Rattle.image.specs.Answers.{HeldBy}
use Rattle.image.specs.Windows.{Window, spot_in}
use Rattle.image.specs.declared.Span.{Span}
use Rattle.regions.proofs.TableOutside.{there, outside_told}
use Rattle.regions.proofs.walk.table_outside.Goals as goal
use mathlib.Core.List.{List}
use Prim.Native.Nat.{ℕ}

-- no window has the byte where none is found
held : (r : Option Span) (ws : List Window) (run at : ℕ) → HeldBy r ws run at → not (is_some r) ≡ not (there (spot_in ws 1 at))
held (Some s) ws run at h = sym (ap (λ s. not (there s)) h.spot)
held None ws run at h = sym (ap (λ s. not (there s)) h)

flip : (r : Bool) {w : Bool} → w ≡ not r → r ≡ not w
flip true is = sym (ap not is)
flip false is = sym (ap not is)

pub returns : goal.returns
returns c =
    let m = c.args.memory.now in
    flip _ c.is_none.ensures ∙ held _ _ _ _ c.window.ensures ∙ outside_told m.windows.now (length m.image.now) c.args.table m.opened.0 c.requires
