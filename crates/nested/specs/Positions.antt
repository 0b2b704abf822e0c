-- What a walk's positions and turns say: for the code's contracts, the rules don't use it.
use Rattle.std.specs.Prelude.{ℕ, ◌+◌, ◌-◌, ◌*◌, ◌%◌, ◌^◌, ◌<◌, ◌≤◌, Bool, List, [], ◌≡◌, eqb, take, Result, Ok, Err}
use Rattle.std.specs.declared.ops.ControlFlow.{ControlFlow}
use Rattle.std.specs.declared.ops.ControlFlow.TheVariants.{Continue, Break}
use Rattle.std.specs.Prelude.{if◌then◌else◌}
use Rattle.image.specs.Memory.{Memory, entry, on_fetch}
use Rattle.image.specs.Place.{Place, entry_at, last_tried}
use Rattle.image.specs.Rules.{Rules, answer, run, map_rules}
use Rattle.dma.specs.Walk.{Step, done, place_in}
use Rattle.faults.specs.declared.stop.Stop.{Stop}
use Rattle.pasid.specs.declared.ScalableRegisters.{ScalableRegisters}
use Rattle.pasid.specs.declared.reason.ScalableReason.{ScalableReason}
use Rattle.pasid.specs.declared.table.PasidEntry.{PasidEntry}
use Rattle.second.specs.declared.step.Wanted.{Wanted}
use Rattle.nested.specs.Answers.{pages_of, PagesNames, PagesGrows}
use Rattle.nested.specs.Pages.{Pages, FirstHanded, first_handed, no_first_entry, wanted_of_entry, wanted_of_page, to_page, intermediate_rules, locate, host_page_rules, walk_step, first_rules, pages_rules, Reachable, SecondWalkable, FirstWalkable}
use Rattle.nested.specs.Then.{then_rules}
use Rattle.nested.specs.Way.{located}
use Rattle.nested.specs.declared.Reached.{Reached}
use Rattle.nested.specs.declared.position.EntryAt.{EntryAt}
use Rattle.nested.specs.declared.position.Position.{Position}
use Rattle.nested.specs.declared.position.Walk.{Walk}

-- the address of a level's entry in its table and what is wanted of it; at level 0 those of the page
unfoldable pub place_at : (address level at : ℕ) → ℕ
place_at address level at = if eqb level 0 then at else place_in address at (level - 1)

unfoldable pub wanted_at : PasidEntry → (write : Bool) (level : ℕ) → Wanted
wanted_at p write level = if eqb level 0 then wanted_of_page write else wanted_of_entry p

module _ (r : ScalableRegisters) (p : PasidEntry) (address : ℕ) (write : Bool) where
  -- by PGTT, where it is none that passes through. With 2 there is no first level, and the request's own address is the page's
  unfoldable pub kind_rules : Rules Pages
  kind_rules = if eqb p.kind 2 then map_rules (to_page address) (intermediate_rules r p (wanted_of_page write) address []) else pages_rules r p address write

  -- what is left of it: at level 0 the page at an intermediate address, else the first level from this level down, and its page
  unfoldable pub rest_rules : (level at : ℕ) → FirstHanded → Rules Pages
  rest_rules level at s =
      if eqb level 0 then map_rules (to_page at) (intermediate_rules r p (wanted_of_page write) at s.flags)
      else then_rules (λ w. w) (host_page_rules r p write) (first_rules r p address write level at s)

  -- what the entry at a host address says over a memory
  abbrev pub entry_over : Memory → (level place : ℕ) → FirstHanded → Step FirstHanded Pages
  entry_over m level place s = on_fetch (entry 1 m place) (done (no_first_entry p s)) (walk_step r p address write level place s)

-- the code's answer is what rules answer, and a fault names the entry at which they stop, the place handed in where they try none
abbrev pub PagesTell : Result Reached (Stop ScalableReason) → Rules Pages → Memory → Place → (flags : List ℕ) → Type 0
PagesTell r q m before flags =
    (pages_of r flags ≡ run q m) × PagesNames r (last_tried before q m) × Reachable (pages_of r flags) × PagesGrows r 47

-- the rules that are left at a position
abbrev pub position_rules : Walk → Position → (flags : List ℕ) → Rules Pages
position_rules w s flags =
    rest_rules w.space.registers w.space.entry w.asked.address w.asked.write s.level s.at (first_handed s.top (take s.count flags))

-- a position as a walk comes to it. A level of the first level adds at most 8 flags: 5 + 1 of the second level, where D is one, and A and EA;
-- 5 levels make 40, D of the page's entry 1 more. The page adds 5 + 1, so that 47 is the most
abbrev pub PositionFits : PasidEntry → Position → Type 0
PositionFits p s =
    (0 < s.level → FirstWalkable p × (s.level ≤ 5) × (s.at % 4096 ≡ 0) × (s.at < 2 ^ 52) × (s.count + 8 * s.level ≤ 40))
    × (s.level ≡ 0 → SecondWalkable p × (s.count ≤ 41))

-- what a way tells of a position, over the flags before it and after it: where the entry is, or what the walk ends with
abbrev pub WayTells : Result (ControlFlow Reached EntryAt) (Stop ScalableReason) → Walk → Position → Memory → (before after : List ℕ) → Type 0
WayTells (Ok (Continue e)) w s m before after =
    (0 < s.level)
    × (e.at % 8 ≡ 0)
    × (e.at < 2 ^ 60)
    × (e.count ≤ s.count + 6)
    × (located e.at (record { top = s.top; writable = e.writable; flags = take e.count after })
    ≡ run (locate w.space.registers w.space.entry (first_handed s.top (take s.count before)) (place_in w.asked.address s.at (s.level - 1))) m)
WayTells (Ok (Break r)) w s m before after = PagesTell (Ok r) (position_rules w s before) m (entry_at s.last) after
WayTells (Err e) w s m before after = PagesTell (Err e) (position_rules w s before) m (entry_at s.last) after

-- a turn leaves the same to be answered, and the same entry to stop at
abbrev pub TurnTells : Result (ControlFlow Reached Position) (Stop ScalableReason) → Walk → Position → Memory → (before after : List ℕ) → Type 0
TurnTells (Ok (Continue next)) w s m before after =
    PositionFits w.space.entry next
    × (next.level < s.level)
    × (run (position_rules w next after) m ≡ run (position_rules w s before) m)
    × (last_tried (entry_at next.last) (position_rules w next after) m ≡ last_tried (entry_at s.last) (position_rules w s before) m)
TurnTells (Ok (Break r)) w s m before after = PagesTell (Ok r) (position_rules w s before) m (entry_at s.last) after
TurnTells (Err e) w s m before after = PagesTell (Err e) (position_rules w s before) m (entry_at s.last) after

-- the rules that follow a turn, and the entry that it tried last
abbrev pub turn_rules : ControlFlow Reached Position → Walk → (flags : List ℕ) → Rules Pages
turn_rules (Continue next) w flags = position_rules w next flags
turn_rules (Break r) w flags = answer (pages_of (Ok r) flags)

abbrev pub TurnLast : ControlFlow Reached Position → Place → Type 0
TurnLast (Continue next) place = entry_at next.last ≡ place
TurnLast (Break r) place = PagesNames (Ok r) place

abbrev pub TurnFits : ControlFlow Reached Position → PasidEntry → (level : ℕ) → Type 0
TurnFits (Continue next) p level = PositionFits p next × (next.level < level)
TurnFits (Break r) p level = Reachable (pages_of (Ok r) []) × PagesGrows (Ok r) 47
