-- A walk by levels from the top down, over any format of its entries: what a step makes of an entry is a parameter, and so is
-- what it hands down to the next level.
use Rattle.std.specs.Prelude.{ℕ, zero, suc, ◌+◌, ◌*◌}
use Rattle.image.specs.Bits.{bits}
use Rattle.image.specs.EntryKind.{page_entry}
use Rattle.image.specs.Memory.{Memory, entry, on_fetch}
use Rattle.image.specs.Rules.{Rules, answer, fetch}

-- the walk ends, or goes on with the table at an address and what is handed down to it
pub data Step (S A : Type 0) : Type 0 where
  done : A → Step S A
  down : (table : ℕ) → S → Step S A

abbrev pub on_step {ℓ} : {S A : Type 0} {B : Type ℓ} → Step S A → (A → B) → (ℕ → S → B) → B
on_step (done a) ended next = ended a
on_step (down table s) ended next = next table s

-- an entry's place in its table, at level L = n + 1: 8 × address bits 12+9(L-1) to 20+9(L-1)
abbrev pub offset_in : (address n : ℕ) → ℕ
offset_in address n = 8 * bits address (20 + 9 * n) (12 + 9 * n)

abbrev pub place_in : (address table n : ℕ) → ℕ
place_in address table n = table + offset_in address n

-- an entry that can't be fetched is answered by what was handed down; a step is given the level, the entry's place, what was handed
-- down and the entry
module _ {S A : Type 0} (address : ℕ) (missing : S → A) (step : (level place : ℕ) → S → (e : ℕ) → Step S A) where
  -- a step at level 1 ends the walk: below it there is no table
  unfoldable pub walk_rules : (level table : ℕ) → S → Rules A
  walk_rules zero table s = answer (missing s)
  walk_rules (suc n) table s =
      fetch page_entry (place_in address table n) (missing s)
      (λ e. on_step (step (suc n) (place_in address table n) s e) answer (walk_rules n))

  -- the level n + 1 alone, over a memory: for the code's contracts, the rules don't use it
  unfoldable pub step_over : Memory → (n table : ℕ) → S → Step S A
  step_over m n table s =
      on_fetch (entry 1 m (place_in address table n)) (done (missing s)) (step (suc n) (place_in address table n) s)
