-- Document 02, ask 8, before any item: refusal 1, then TE, the context and the region, in this order. No item is named.
use Rattle.std.specs.Prelude.{ℕ, ◌+◌, ◌-◌, ◌*◌, ◌/◌, ◌%◌, ◌^◌, ◌<◌, Bool, not, ◌&&◌, ◌||◌, ◌≡◌, List, eqb, leb, ltb, length}
use Rattle.std.specs.Prelude.{if◌then◌else◌}
use Rattle.image.specs.Rules.{run}
use Rattle.image.specs.Windows.{of_windows, bad_windows}
use Rattle.registers.specs.Registers.{registers_bad}
use Rattle.registers.specs.declared.Registers.{Registers}
use Rattle.dma.specs.Lookup.{on_lookup, lookup_rules}
use Rattle.dma.specs.declared.context.Context.{Context}
use Rattle.region.specs.Region.{bad_region}
use Rattle.tables.specs.declared.Tree.{Tree}

pub data Readiness : Type 0 where
  refusal : (number : ℕ) → Readiness
  not_yet : (reason : ℕ) → Readiness
  ready : Tree → Readiness

-- the lent copy has the region's size, and there is a mark for each of its pages
abbrev pub sized : (size copy marks : ℕ) → Bool
sized size copy marks = eqb copy size && eqb marks (size / 4096)

-- the top table is no page of the region
abbrev pub top_outside : (start size top : ℕ) → Bool
top_outside start size top = ltb top start || leb size (top - start)

abbrev pub tree_of : (start : ℕ) → Context → Tree
tree_of start context = record { start = start; top = context.top - start; below = context.levels - 1 }

module _ (registers : Registers) (windows bytes : List ℕ) (start size copy marks : ℕ) where
  -- 2, pass-through; 3, the region; 5, the lent buffers; 4, a top table outside the region
  unfoldable pub in_context : Context → Readiness
  in_context context =
      if eqb context.translation_type 2 then not_yet 2
      else if bad_region registers windows bytes start size then not_yet 3
      else if not (sized size copy marks) then not_yet 5
      else if top_outside start size context.top then not_yet 4
      else ready (tree_of start context)

  -- refusal 1; 1, TE is off; 2, there is no context
  unfoldable pub readiness : (source : ℕ) → Readiness
  readiness source =
      if bad_windows windows (length bytes) || registers_bad registers then refusal 1
      else if not registers.te then not_yet 1
      else on_lookup (run (lookup_rules registers source) (of_windows windows bytes)) (λ reason fpd. not_yet 2) in_context

-- what holds of tables that are ready, with so many bytes of a copy and so many marks: for the code's contracts
abbrev pub TablesReady : Registers → (copy marks : ℕ) → Tree → Type 0
TablesReady registers copy marks tree =
    (registers.haw < 53)
    × (tree.start % 4096 ≡ 0)
    × (tree.start + copy < 2 ^ 53)
    × (4096 * marks ≡ copy)
    × (tree.top < 2 ^ 52)
    × (tree.below < 5)

abbrev pub IfReady : (Tree → Type 0) → Readiness → Type 0
IfReady P (refusal number) = Unit {0}
IfReady P (not_yet reason) = Unit {0}
IfReady P (ready tree) = P tree
