-- What a turn tells, by the rules that follow it.
use Prim.Native.Nat.{ℕ}
use mathlib.Core.List.{List}
use mathlib.Core.Path.{◌≡◌, ap, ◌∙◌, subst}
use Rattle.image.specs.Memory.{Memory}
use Rattle.image.specs.Place.{Place, entry_at, last_tried}
use Rattle.image.specs.Rules.{Rules, run}
use Rattle.std.specs.declared.ops.ControlFlow.{ControlFlow}
use Rattle.std.specs.declared.ops.ControlFlow.TheVariants.{Continue, Break}
use Rattle.std.specs.Prelude.{Ok, Err}
use Rattle.faults.specs.declared.stop.Stop.{Stop}
use Rattle.pasid.specs.Reason.{number_of}
use Rattle.pasid.specs.declared.reason.ScalableReason.{ScalableReason}
use Rattle.nested.specs.Answers.{PagesNames}
use Rattle.nested.specs.Pages.{Pages, fault, host_page_rules}
use Rattle.nested.specs.Positions.{position_rules, TurnTells, turn_rules, TurnLast, TurnFits}
use Rattle.nested.specs.declared.Reached.{Reached}
use Rattle.nested.specs.declared.position.Position.{Position}
use Rattle.nested.specs.declared.position.Walk.{Walk}

pub turned : (r : ControlFlow Reached Position) (w : Walk) (s : Position) (m : Memory) (before after : List ℕ) (q : Rules Pages) (here : Place)
    → turn_rules r w after ≡ q → TurnLast r here → TurnFits r w.space.entry s.level
    → run q m ≡ run (position_rules w s before) m
    → last_tried here q m ≡ last_tried (entry_at s.last) (position_rules w s before) m
    → TurnTells (Ok r) w s m before after
unfolding run last_tried
turned (Continue next) w s m before after q here is last fits ran tried = (
  fits.0,
  fits.1,
  ap (λ q. run q m) is ∙ ran,
  ap (λ (place : Place). last_tried place (position_rules w next after) m) last ∙ ap (λ q. last_tried here q m) is ∙ tried,
)
turned (Break r) w s m before after q here is last fits ran tried = (
  ap (λ q. run q m) is ∙ ran,
  subst (λ (place : Place). PagesNames (Ok r) place) (ap (λ q. last_tried here q m) is ∙ tried) last,
  fits.0,
  fits.1,
)

-- a fault of the first level is followed by nothing
pub failed : (e : Stop ScalableReason) (w : Walk) (s : Position) (m : Memory) (before after : List ℕ) (here : Place) → entry_at e.at ≡ here
    → let q = host_page_rules w.space.registers w.space.entry w.asked.write (fault (number_of e.reason) e.fpd) in
    run q m ≡ run (position_rules w s before) m
    → last_tried here q m ≡ last_tried (entry_at s.last) (position_rules w s before) m
    → TurnTells (Err e) w s m before after
unfolding run last_tried host_page_rules
failed e w s m before after here is ran tried = (ran, is ∙ tried, tt, tt)
