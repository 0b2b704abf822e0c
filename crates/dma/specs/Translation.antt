-- Document 01, "Memory requests, step by step": from the root entry to a page or a fault, as one rules tree.
use Rattle.std.specs.Prelude.{ℕ, ◌+◌, ◌*◌, ◌^◌, ◌<◌, ◌≤◌, min, Bool, eqb, leb}
use Rattle.std.specs.Prelude.{if◌then◌else◌}
use Rattle.image.specs.Memory.{Memory}
use Rattle.image.specs.Rules.{Rules, answer}
use Rattle.registers.specs.declared.Registers.{Registers}
use Rattle.image.specs.Check.{on_check}
use Rattle.dma.specs.Lookup.{root_rules}
use Rattle.dma.specs.Page.{page_check, leaf_at}
use Rattle.dma.specs.Walk.{Step, done, down, walk_rules, step_over}
use Rattle.dma.specs.declared.context.Context.{Context}

-- the address itself, where a context passes through; the frame of a page, with the level of its entry; or a fault with FPD as it
-- was read by then
pub data Translation : Type 0 where
  through : Translation
  leaf : (frame level : ℕ) → Translation
  fault : (reason : ℕ) (fpd : Bool) → Translation

-- a page's frame and level as a walk can answer them: for the code's contracts
abbrev pub Reachable : Translation → Type 0
Reachable through = Unit {0}
Reachable (leaf frame level) = (frame < 2 ^ 52) × (0 < level) × (level ≤ 3)
Reachable (fault reason fpd) = Unit {0}

-- X is the smaller of MGAW and AW's 39, 48 or 57 bits; the address is at or above 2^X
abbrev pub overflows : Registers → (levels address : ℕ) → Bool
overflows registers levels address = leb (2 ^ min registers.mgaw (12 + 9 * levels)) address

module _ (registers : Registers) (address : ℕ) (write : Bool) where
  -- a page ends the walk, any other entry leads one level down. Nothing is handed down
  abbrev pub page_step : (fpd : Bool) (level place : ℕ) → Unit {0} → (e : ℕ) → Step (Unit {0}) Translation
  page_step fpd level place s e =
      on_check (page_check registers write level e) (λ reason. done (fault reason fpd))
      (λ frame. if leaf_at level e then done (leaf frame level) else down frame tt)

  -- one level over a memory: for the code's contracts
  abbrev pub page_over : (fpd : Bool) → Memory → (below table : ℕ) → Step (Unit {0}) Translation
  page_over fpd m below table =
      step_over address (λ s. fault 0x07 fpd) (page_step fpd) m below table tt

  abbrev pub page_rules : (fpd : Bool) (level table : ℕ) → Rules Translation
  page_rules fpd level table =
      walk_rules address (λ s. fault 0x07 fpd) (page_step fpd) level table tt

  -- pass-through goes no further than the width
  unfoldable pub width_rules : Context → Rules Translation
  width_rules context =
      if overflows registers context.levels address then answer (fault 0x04 context.fpd)
      else if eqb context.translation_type 2 then answer through
      else page_rules context.fpd context.levels context.top

  abbrev pub translation_rules : (source : ℕ) → Rules Translation
  translation_rules = root_rules registers fault width_rules
