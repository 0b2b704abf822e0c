-- Document 02, Ask 1: a translation request, from the root entry to a page, the empty answer or a fault, as one rules tree. Root and
-- context entries, the width, the reserved bits of page entries and the walk by levels are those of untranslated requests.
use Rattle.std.specs.Prelude.{ℕ, Bool, not, ◌||◌, eqb}
use Rattle.image.specs.Bits.{any_set, in_place}
use Rattle.std.specs.Prelude.{if◌then◌else◌}
use Rattle.image.specs.Memory.{Memory}
use Rattle.image.specs.Rules.{Rules, answer}
use Rattle.registers.specs.declared.Registers.{Registers}
use Rattle.dma.specs.Lookup.{root_rules}
use Rattle.dma.specs.Page.{leaf_at, page_reserved}
use Rattle.dma.specs.Translation.{overflows}
use Rattle.dma.specs.Translation as dma
use Rattle.dma.specs.Walk.{Step, done, down, walk_rules, step_over}
use Rattle.dma.specs.declared.context.Context.{Context}
use Rattle.translation.specs.Rights.{both, joined, some_left}
use Rattle.translation.specs.declared.Rights.{Rights}

-- a page's frame, the level of its entry and the joined rights; the empty answer; or a fault with FPD as it was read by then
pub data Completion : Type 0 where
  page : (frame level : ℕ) → Rights → Completion
  empty : Completion
  fault : (reason : ℕ) (fpd : Bool) → Completion

-- a page's frame and level as a walk can answer them: for the code's contracts
abbrev pub Reachable : Completion → Type 0
Reachable (page frame level rights) = dma.Reachable (dma.leaf frame level)
Reachable empty = Unit {0}
Reachable (fault reason fpd) = Unit {0}

-- both rights clear: the empty answer; a reserved bit: 0Ch; no joined right left: the empty answer. Else a page ends the walk, and
-- any other entry hands the joined rights one level down
abbrev pub entry_step : Registers → (fpd : Bool) (level place : ℕ) → Rights → (e : ℕ) → Step Rights Completion
entry_step registers fpd level place above e =
    if not (any_set e 1 0) then done empty
    else if page_reserved registers level e then done (fault 0x0C fpd)
    else if not (some_left (joined above e)) then done empty
    else if leaf_at level e then done (page (in_place e 51 12) level (joined above e))
    else down (in_place e 51 12) (joined above e)

module _ (registers : Registers) (address : ℕ) where
  -- one level over a memory: for the code's contracts
  abbrev pub entry_over : (fpd : Bool) → Memory → (below table : ℕ) → Rights → Step Rights Completion
  entry_over fpd = step_over address (λ above. fault 0x07 fpd) (entry_step registers fpd)

  abbrev pub joined_rules : (fpd : Bool) (level table : ℕ) → Rights → Rules Completion
  joined_rules fpd = walk_rules address (λ above. fault 0x07 fpd) (entry_step registers fpd)

  -- context types 0 and 2 are 0Dh; 3 is 03h by then. Then the width: an address at or above 2^X gets the empty answer
  unfoldable pub type_rules : Context → Rules Completion
  type_rules context =
      if eqb context.translation_type 0 || eqb context.translation_type 2 then answer (fault 0x0D context.fpd)
      else if overflows registers context.levels address then answer empty
      else joined_rules context.fpd context.levels context.top both

  abbrev pub completion_rules : (source : ℕ) → Rules Completion
  completion_rules = root_rules registers fault type_rules
