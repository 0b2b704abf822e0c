-- What stands at an address of a source's pages: one walk for this address, that of a translation request, tells the entry at which it
-- ends, its span, and the rights joined down to it.
use Rattle.std.specs.Prelude.{ℕ, zero, suc, Bool, true, false}
use Rattle.std.specs.Prelude.{if◌then◌else◌}
use Rattle.image.specs.Memory.{Memory}
use Rattle.registers.specs.declared.Registers.{Registers}
use Rattle.dma.specs.InterruptRange.{meets_interrupt_range, span_at}
use Rattle.dma.specs.Walk.{Step, done, down, on_step}
use Rattle.translation.specs.Completion.{Completion, entry_over}
use Rattle.translation.specs.Completion as completion
use Rattle.translation.specs.Rights.{neither}
use Rattle.translation.specs.declared.Rights.{Rights}

-- a page, with its frame; a fault, by its reason; a page that is refused, by number; or nothing, where no joined right is left
pub data What : Type 0 where
  page : (frame : ℕ) → What
  fault : (reason : ℕ) → What
  refused : (number : ℕ) → What
  nothing : What

abbrev pub is_listed : What → Bool
is_listed (page frame) = true
is_listed (fault reason) = true
is_listed (refused number) = true
is_listed nothing = false

-- the span is that of an entry of the level: 2^(12+9(level-1)) bytes. A page's rights count its own entry's, a fault's those of the
-- entries above it
pub record Region : Type 0 where
  pub level : ℕ
  pub what : What
  pub rights : Rights

-- the end of a walk at an entry of a level, with the rights of those above it. A page with a byte in the interrupt range is refusal 4
abbrev pub ended : (level : ℕ) → Rights → Completion → Region
ended level above (completion.page frame of rights) =
    record { level = level; what = if meets_interrupt_range frame (span_at of) then refused 4 else page frame; rights = rights }
ended level above completion.empty = record { level = level; what = nothing; rights = neither }
ended level above (completion.fault reason fpd) = record { level = level; what = fault reason; rights = above }

-- outside tells of a table that none of its 4,096 bytes is in the memory: then one fault takes up all of its span, which is that of an
-- entry one level up
module _ (registers : Registers) (m : Memory) (outside : (table : ℕ) → Bool) (address : ℕ) where
  -- the level n + 1 alone
  unfoldable pub region_step : (n table : ℕ) → Rights → Step Rights Region
  region_step n table above =
      if outside table then done (record { level = suc (suc n); what = fault 0x07; rights = above })
      else on_step (entry_over registers address false m n table above) (λ c. done (ended (suc n) above c)) down

  -- no step of level 1 leads on, so level 0 is never come to
  unfoldable pub region_in : (level table : ℕ) → Rights → Region
  region_in zero table above = record { level = 1; what = fault 0x07; rights = above }
  region_in (suc n) table above = on_step (region_step n table above) (λ r. r) (region_in n)
