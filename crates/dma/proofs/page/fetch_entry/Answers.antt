use Prim.Native.Nat.{ℕ, ◌+◌}
use mathlib.Core.Path.{ap, ◌∙◌}
use native.Mathlib.Omega.{arith}
use Rattle.image.specs.Memory.{entry}
use Rattle.image.specs.Answers.{memory_of}
use Rattle.dma.proofs.page.fetch_entry.Goals as goal

pub entry_offset-offset-requires : goal.entry_offset-offset-requires
entry_offset-offset-requires c = c.requires.0

pub overflow_add-at : goal.overflow_add-at
overflow_add-at c = omega (arith, c.requires.1, c.entry_offset-offset.ensures.1)

pub table_entry-found-requires : goal.table_entry-found-requires
table_entry-found-requires c = let p = c.requires in (p.1, omega arith, omega arith)

pub returns : goal.returns
returns c =
    let a = c.args in
    let place = ap (λ (i : ℕ). a.table + i) c.entry_offset-offset.ensures.0 in
    record {
      at_value = place;
      found_value = c.table_entry-found.ensures.result_value ∙ ap (entry 1 (memory_of a.memory.now)) place;
    }
