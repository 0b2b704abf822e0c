-- Document 02, ask 8: tables built here, from an empty one, aren't refused as such that weren't. Proved in proofs/Again.antt.
use Rattle.std.specs.Prelude.{ℕ, ◌+◌, ◌*◌, ◌<◌, false, List, ◌≡◌, get_or}
use Rattle.image.specs.Rules.{run}
use Rattle.image.specs.Windows.{of_windows}
use Rattle.registers.specs.declared.Registers.{Registers}
use Rattle.dma.specs.Lookup.{context, lookup_rules}
use Rattle.dma.specs.declared.context.Context.{Context}
use Rattle.region.specs.Copy.{word_shown}
use Rattle.tables.specs.Tables.{present}
use Rattle.builder.specs.Build.{LentBuffers, lent, all_taken, not_ready, built}
use Rattle.builder.specs.Ready.{top_outside}

-- with an empty top table in the region
abbrev pub BuildsOnEmpty : Type 0
BuildsOnEmpty =
    (registers : Registers) (source start size : ℕ) (windows items : List ℕ) (l : LentBuffers) → ((n : ℕ) → get_or l.memory n 0 < 256)
    → (own : Context) → run (lookup_rules registers source) (of_windows windows l.memory) ≡ context own
    → top_outside start size own.top ≡ false
    → ((n : ℕ) → n < 512 → present (word_shown (of_windows windows l.memory) (own.top + 8 * n)) ≡ false)
    → (built registers source start size windows items l).0 ≡ not_ready 4 → ⊥

-- after a success, with any other list, copy and marks
abbrev pub BuildsAgain : Type 0
BuildsAgain =
    (registers : Registers) (source start size : ℕ) (windows items : List ℕ) (l : LentBuffers)
    → ((n : ℕ) → get_or l.memory n 0 < 256) → ((n : ℕ) → get_or l.copy n 0 < 256)
    → (built registers source start size windows items l).0 ≡ all_taken
    → (items' copy marks : List ℕ)
    → (built registers source start size windows items' (lent (built registers source start size windows items l).1.memory copy marks)).0 ≡ not_ready 4 → ⊥
