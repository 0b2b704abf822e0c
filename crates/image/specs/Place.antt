-- Document 02, ask 7: the entry concerned in a fault. It is always the last one that the rules tried to fetch, so one definition over
-- every tree gives it, and nothing is written beside the single faults.
use Rattle.std.specs.Prelude.{ℕ}
use Rattle.image.specs.EntryKind.{words_of}
use Rattle.image.specs.Memory.{Memory, entry, on_fetch}
use Rattle.image.specs.Rules.{Rules, answer, fetch}

-- no entry, or the one at a host address
pub data Place : Type 0 where
  no_entry : Place
  entry_at : (at : ℕ) → Place

module _ {A : Type 0} where
  -- the last entry that the rules tried to fetch over a memory, whether they could or not; where they tried none, what was tried before
  unfoldable pub last_tried : (before : Place) → Rules A → Memory → Place
  last_tried before (answer a) m = before
  last_tried before (fetch kind at outside next) m =
      on_fetch (entry (words_of kind) m at) (entry_at at) (λ e. last_tried (entry_at at) (next e) m)

  -- where the rules of a whole request stopped
  abbrev pub stopped_at : Rules A → Memory → Place
  stopped_at = last_tried no_entry
